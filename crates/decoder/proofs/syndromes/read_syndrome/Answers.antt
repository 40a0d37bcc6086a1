use Rattle.std.proofs.Common.{◌≡◌, ℕ, suc, ◌+◌, ◌*◌, ◌/◌, ◌%◌, ◌^◌, ◌<◌, ◌≤◌, length, sym, ap, ◌∙◌, subst, mul_comm, mul-suc, arith}
use native.Mathlib.Nat.{div-add-mod}
use Rattle.std.proofs.lemmas.Nat.{mul-le, div_below, mod_below}
use Rattle.bits.specs.Packed.{vector}
use Rattle.matrices.specs.Columns.{number_bit, bits_of}
use Rattle.polys.proofs.Places.{placed_all}
use Rattle.polys.proofs.Points.{below_set}
use Rattle.decoder.proofs.syndromes.read_syndrome.Goals as goal

-- row r of m places lies within t rows
row_within : (m r t : ℕ) → r < t → m * r + m ≤ m * t
row_within m r t l = let h : m * suc r ≤ m * t = mul-le m (suc r) m t (omega arith) (omega arith) in omega (arith, mul-suc m r)

pub overflow_mul-m : goal.overflow_mul-m
overflow_mul-m g c =
    let m = g.F.Field.BITS in
    let h : m * c.loop-r.r < 2 ^ 64 = omega (arith, row_within m c.loop-r.r (length c.args.s.now) c.loop-r-test.true, c.requires.fits.1) in
    let small : c.BITS-m.result * c.loop-r.r < 2 ^ 64 = rw c.BITS-m.ensures h in
    omega (arith, small)

pub number_at-requires : goal.number_at-requires
number_at-requires g c =
    let m = g.F.Field.BITS in
    let r = c.loop-r.r in
    let h = row_within m r (length c.args.s.now) c.loop-r-test.true in
    let n = length c.args.syndrome.now in
    let P : ℕ → Type 0 = λ d. (d ≤ 16) × ((d * r + d ≤ 8 * n) × (d * r + d < 2 ^ 64)) in
    subst P (sym c.BITS-m.ensures) (c.requires.field.1, (omega (arith, h, c.requires.fits.0), omega (arith, h, c.requires.fits.1)))

pub loop-r-preserved : goal.loop-r-preserved
loop-r-preserved g c =
    let m = g.F.Field.BITS in
    let v = vector c.args.syndrome.now in
    let r = c.loop-r.r in
    let x = c.number_at.result in
    let R : ℕ → ℕ → Type 0 = λ j y. (y < 2 ^ m) × ((i : ℕ) → i < m → number_bit y i ≡ v (m * j + i)) in
    let P : ℕ → Type 0 = λ d. (x < 2 ^ d) × ((i : ℕ) → i < d → number_bit x i ≡ v (d * r + i)) in
    below_set c.loop-r.s r x (omega arith) R c.loop-r.invariant (subst P c.BITS-m.ensures (c.number_at.ensures.below, c.number_at.ensures.bits))

pub returns : goal.returns
unfolding bits_of
returns g c =
    let m = g.F.Field.BITS in
    let s = c.loop-r.s in
    let t = length c.args.s.now in
    let v = vector c.args.syndrome.now in
    let inv = c.loop-r.invariant in
    record {
      placed = placed_all m s (λ j l. (inv j (omega arith)).0);
      bits = λ i l.
          let q : i / m < t = div_below i m t c.requires.field.0 (omega (arith, mul_comm m t)) in
          (inv (i / m) (omega arith)).1 (i % m) (mod_below i m c.requires.field.0) ∙ ap v (div-add-mod i m);
    }
