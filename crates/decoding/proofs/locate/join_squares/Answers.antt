use Rattle.std.proofs.Common.{◌≡◌, ℕ, ◌+◌, ◌*◌, ◌<◌, List, length, get_or, set, sym, ap, ◌∙◌, subst, arith, length-set, get_or-set_other, get_or-set_same}
use native.Mathlib.Decide.{dec_lt}
use Rattle.algebra.specs.Field.{Ops, Laws, Places}
use Rattle.algebra.specs.Series.{Below}
use Rattle.algebra.proofs.Rings.{ring_laws, mul_zero}
use Rattle.polys.specs.Coefs.{coefs}
use Rattle.polys.proofs.Lists.{coefs_at, below_list}
use Rattle.decoding.proofs.Squares.{value_parts}
use Rattle.decoding.proofs.locate.join_squares.Goals as goal

pub loop-i-preserved : goal.loop-i-preserved
loop-i-preserved g c =
    let pl = g.F.Field.places in
    let f = g.F.Field.ops in
    let i = c.loop-i.i in
    let out = c.loop-i.out in
    let x = c.square_at.result in
    let y = c.square_at-in-loop-i.result in
    let one = set out (2 * i) x in
    let long : length one ≡ length out = length-set out (2 * i) x in
    let p = c.args.p.now in
    let q = c.args.q.now in (
      λ j h. elim (dec_lt j i) [
        | yes l ↦ get_or-set_other one (2 * i + 1) (2 * j) y 0 (omega arith) ∙ get_or-set_other out (2 * i) (2 * j) x 0 (omega arith) ∙ c.loop-i.invariant.0 j l
        | no l ↦
            let e : i ≡ j = omega arith in
            subst (λ n. get_or (set one (2 * i + 1) y) (2 * n) 0 ≡ pl.num (f.mul (coefs pl p n) (coefs pl p n))) e
            (get_or-set_other one (2 * i + 1) (2 * i) y 0 (omega arith) ∙ get_or-set_same out (2 * i) x 0 (omega arith) ∙ c.square_at.ensures)
      ],
      λ j h. elim (dec_lt j i) [
        | yes l ↦ get_or-set_other one (2 * i + 1) (2 * j + 1) y 0 (omega arith) ∙ get_or-set_other out (2 * i) (2 * j + 1) x 0 (omega arith) ∙ c.loop-i.invariant.1 j l
        | no l ↦
            let e : i ≡ j = omega arith in
            subst (λ n. get_or (set one (2 * i + 1) y) (2 * n + 1) 0 ≡ pl.num (f.mul (coefs pl q n) (coefs pl q n))) e
            (get_or-set_same one (2 * i + 1) y 0 (omega arith) ∙ c.square_at-in-loop-i.ensures)
      ],
    )

-- what was written, and zeros after it
all-squares : {A : Type 0} {f : Ops A} (k : Laws f) {m : ℕ} (pl : Places A m) (z : pl.at 0 ≡ f.zero) (n d : ℕ) (p out : List ℕ) → length out ≡ 2 * n → Below f n (coefs pl p)
    → ((j : ℕ) → j < n → get_or out (2 * j + d) 0 ≡ pl.num (f.mul (coefs pl p j) (coefs pl p j))) → (j : ℕ) → f.mul (coefs pl p j) (coefs pl p j) ≡ coefs pl out (2 * j + d)
all-squares {f = f} k pl z n d p out long u h j = elim (dec_lt j n) [
  | yes l ↦ sym (coefs_at k pl out (2 * j + d) ∙ ap pl.at (h j l) ∙ pl.at_num (f.mul (coefs pl p j) (coefs pl p j)))
  | no l ↦ ap (f.mul (coefs pl p j)) (u j (omega arith)) ∙ mul_zero (ring_laws k) (coefs pl p j) ∙ sym (below_list k pl z out (2 * j + d) (omega arith))
]

pub returns : goal.returns
returns g c =
    let k = g.met.F.Field.laws in
    let f = g.F.Field.ops in
    let pl = g.F.Field.places in
    let z = g.met.F.Field.origin in
    let n = c.args.n in
    let p = c.args.p.now in
    let q = c.args.q.now in
    let out = c.loop-i.out in
    let end : c.loop-i.i ≡ n = omega arith in
    let plain : (j : ℕ) → 2 * j + 0 ≡ 2 * j = λ j. omega arith in
    value_parts k pl z n out p q (λ j h. below_list k pl z out j (omega arith)) c.requires.under.0 c.requires.under.1
    (λ j. all-squares k pl z n 0 p out (omega arith) c.requires.under.0 (λ i h. ap (λ x. get_or out x 0) (plain i) ∙ c.loop-i.invariant.0 i (omega arith)) j ∙ ap (coefs pl out) (plain j))
    (all-squares k pl z n 1 q out (omega arith) c.requires.under.1 (λ i h. c.loop-i.invariant.1 i (omega arith)))
