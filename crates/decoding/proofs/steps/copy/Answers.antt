use Rattle.std.proofs.Common.{rules, ◌≡◌, length, replicate, ap, ◌∙◌}
use Rattle.algebra.proofs.Rings.{zero_add}
use Rattle.polys.specs.Coefs.{poly, coefs}
use Rattle.polys.proofs.Terms.{poly_laws}
use Rattle.polys.proofs.Lists.{coefs_zeros}
use Rattle.decoding.proofs.steps.copy.Goals as goal

pub returns : goal.returns
returns g c =
    let k = g.met.F.Field.laws in
    let f = g.F.Field.ops in
    let pl = g.F.Field.places in
    let zeros : c.fill.new.self ≡ replicate (length c.args.into.now) 0 = search rules in
    let none : coefs pl c.fill.new.self ≡ (poly f).zero = ap (coefs pl) zeros ∙ coefs_zeros k pl g.met.F.Field.origin (length c.args.into.now) in
    c.add.ensures.is ∙ ap (λ p. (poly f).add p (coefs pl c.args.p.now)) none ∙ zero_add (poly_laws k) (coefs pl c.args.p.now)
