use Rattle.std.proofs.Common.{◌≡◌, ℕ, ◌+◌, ◌-◌, ◌*◌, ◌<◌, ◌≤◌, List, length, get_or, mul_comm, mul-one, mul-add, arith}
use Rattle.std.proofs.lemmas.Nat.{mul-le, div-mul-add, mod-mul-add}
use Rattle.bits.specs.Packed.{matrix}
use Rattle.matrices.specs.Columns.{number_bit, bits_of}
use Rattle.matrices.proofs.Entries.{column_none, column_join}
use Rattle.matrices.proofs.columns.add_column.Goals as goal

-- a number's bits end where those of the next begin
next : (s r n : ℕ) → r < n → s * r + s ≤ s * n
next s r n l = omega (arith, mul-le s (r + 1) s n (omega arith) (omega arith), mul-add s r 1, mul-one s)

pub overflow_mul-some : goal.overflow_mul-some
overflow_mul-some c = record { fits = omega (arith, next c.args.some c.loop-r.r (length c.args.numbers.now) (omega arith)) }

pub add_number-requires : goal.add_number-requires
add_number-requires c =
    let n = length c.args.numbers.now in
    let e = next c.args.some c.loop-r.r n (omega arith) in
    record {
      rows = (
        omega (arith, mul-le (c.args.some * c.loop-r.r + c.args.some) c.args.width (c.args.some * n) c.args.width e (omega arith)),
        (omega (arith, e), omega arith),
      );
      column = c.requires.column;
    }

pub loop-r-init : goal.loop-r-init
loop-r-init c =
    let e : c.args.some * 0 ≡ 0 = omega arith in
    rw e (column_none 0 (8 * c.args.width) c.args.col (bits_of c.args.some c.args.numbers.now) (matrix c.args.width c.args.m.now))

-- the bits of number r
within : (s r i : ℕ) (c : List ℕ) → s * r ≤ i → i < s * r + s → number_bit (get_or c r 0) (i - s * r) ≡ bits_of s c (i - 0)
unfolding bits_of
within s r i c l m =
    let e : i - 0 ≡ r * s + (i - s * r) = omega (arith, mul_comm s r) in
    rw (e, div-mul-add r s (i - s * r) (omega arith), mod-mul-add r s (i - s * r) (omega arith))

pub loop-r-preserved : goal.loop-r-preserved
loop-r-preserved c =
    let s = c.args.some in
    let r = c.loop-r.r in
    let e : s * (r + 1) ≡ s * r + s = omega (arith, mul-add s r 1, mul-one s) in
    rw e
    (column_join 0 (s * r) (s * r + s) (8 * c.args.width) c.args.col (bits_of s c.args.numbers.now) (number_bit (get_or c.args.numbers.now r 0))
    (matrix c.args.width c.args.m.now) (matrix c.args.width c.loop-r.m) (matrix c.args.width c.add_number.new.m) (omega arith) (omega arith)
    (λ i l m. within s r i c.args.numbers.now l m) c.loop-r.invariant c.add_number.ensures)

pub returns : goal.returns
returns c = let e : c.loop-r.r ≡ length c.args.numbers.now = omega arith in rw e at c.loop-r.invariant
