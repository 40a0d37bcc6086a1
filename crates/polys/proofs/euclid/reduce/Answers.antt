use Rattle.std.proofs.Common.{◌≡◌, ◌+◌, ◌-◌, sym, ap, ◌∙◌, subst, arith}
use Rattle.algebra.specs.Series.{Series, Below}
use Rattle.polys.specs.Coefs.{poly, coefs, mono}
use Rattle.polys.proofs.Lists.{coefs_at, coefs_take}
use Rattle.polys.proofs.Steps.{drop_top}
use Rattle.polys.proofs.Rule.{reduced_none, reduced_more}
use Rattle.polys.proofs.euclid.reduce.Goals as goal

pub loop-j-preserved : goal.loop-j-preserved
loop-j-preserved g c =
    let k = g.met.F.Field.laws in
    let f = g.F.Field.ops in
    let pl = g.F.Field.places in
    let z = g.met.F.Field.origin in
    let K = c.args.k in
    let j = c.loop-j.j - 1 in
    let got = c.leading_inverse-e.ensures.lead in
    let inv = c.loop-j.invariant in
    let R = coefs pl c.args.r.now in
    let S = coefs pl c.loop-j.s in
    let M = mono f c.product-c.result (j - K) in
    let front = coefs_take k pl z c.args.r.now (K + 1) (λ x h. got.under x (omega arith)) in
    let put = c.add_scaled.ensures.is in
    let added : coefs pl c.add_scaled.new.into ≡ (poly f).add S ((poly f).mul M R) = cc in
    let by : c.product-c.result ≡ f.mul c.read.result c.leading_inverse-e.result = c.product-c.ensures in
    let read : c.product-c.result ≡ f.mul (S j) c.leading_inverse-e.result = by ∙ ap (λ x. f.mul x c.leading_inverse-e.result) (c.read.ensures ∙ sym (coefs_at k pl c.loop-j.s j)) in
    let less = drop_top k pl z S R K j c.leading_inverse-e.result c.product-c.result got (λ x h. inv.0 x (omega arith)) (omega arith) read in (
      subst (λ (p : Series g.row.F.Denot). Below f j p) (sym added) less,
      reduced_more k (c.args.n + 1 - K) (coefs pl c.args.s.now) R (coefs pl c.args.a.now) (coefs pl c.args.b.now) S (coefs pl c.loop-j.a) _ _ c.product-c.result (j - K) (omega arith) inv.1 added c.add_scaled-in-loop-j.ensures.is,
    )

pub loop-j-init : goal.loop-j-init
loop-j-init g c =
    let of = coefs g.F.Field.places in
    (c.requires.under, reduced_none g.met.F.Field.laws (c.args.n + 1 - c.args.k) (of c.args.s.now) (of c.args.r.now) (of c.args.a.now) (of c.args.b.now))
