use Rattle.std.proofs.Common.{rules, replicate, ◌≡◌, ◌+◌, ◌*◌, ◌<◌, length, get_or, sym, ap, ◌∙◌, ap₂, arith}
use native.Mathlib.Decide.{dec_lt}
use Rattle.algebra.proofs.Rings.{ring_laws, mul_zero}
use Rattle.polys.specs.Coefs.{coefs}
use Rattle.polys.proofs.Lists.{coefs_at, below_list, get_d_zeros}
use Rattle.polys.proofs.Points.{below_set, above_set}
use Rattle.decoding.proofs.roots.every_other_root.Goals as goal

pub loop-j-init : goal.loop-j-init
loop-j-init g c =
    let zeros : c.fill.new.self ≡ replicate (length c.args.out.now) 0 = search rules in
    (λ i h. absurd (omega arith), λ i h. ap (λ l. get_or l i 0) zeros ∙ get_d_zeros (length c.args.out.now) i)

pub loop-j-preserved : goal.loop-j-preserved
loop-j-preserved g c =
    let f = g.F.Field.ops in
    let pl = g.F.Field.places in
    let j = c.loop-j.j in
    let w = c.place.result in
    let within : j < length c.loop-j.out = omega arith in
    let inv = c.loop-j.invariant in
    let back : pl.at w ≡ c.square_root.result = ap pl.at c.place.ensures ∙ pl.at_num c.square_root.result in (
      below_set c.loop-j.out j w within (λ i y. f.mul (pl.at y) (pl.at y) ≡ pl.at (get_or c.args.p.now (2 * i + c.args.start) 0)) inv.0
          (ap₂ f.mul back back ∙ c.square_root.ensures ∙ c.read.ensures),
      λ i h. above_set c.loop-j.out j w within i h ∙ inv.1 i (omega arith),
    )

pub returns : goal.returns
returns g c =
    let k = g.met.F.Field.laws in
    let f = g.F.Field.ops in
    let pl = g.F.Field.places in
    let z = g.met.F.Field.origin in
    let p = c.args.p.now in
    let out = c.loop-j.out in
    let start = c.args.start in
    λ i. elim (dec_lt i c.loop-j.j) [
      | yes h ↦ ap₂ f.mul (coefs_at k pl out i) (coefs_at k pl out i) ∙ c.loop-j.invariant.0 i h ∙ sym (coefs_at k pl p (2 * i + start))
      | no h ↦
          let none : coefs pl out i ≡ f.zero = coefs_at k pl out i ∙ ap pl.at (c.loop-j.invariant.1 i (omega arith)) ∙ z in
          ap (f.mul (coefs pl out i)) none ∙ mul_zero (ring_laws k) (coefs pl out i) ∙ sym (below_list k pl z p (2 * i + start) (omega arith))
    ]
