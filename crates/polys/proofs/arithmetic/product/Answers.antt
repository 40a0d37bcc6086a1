use Rattle.std.proofs.Common.{take_all}
use Rattle.polys.specs.Coefs.{coefs}
use Rattle.polys.proofs.Steps.{product_more}
use Rattle.polys.proofs.arithmetic.product.Goals as goal

pub loop-i-preserved : goal.loop-i-preserved
loop-i-preserved g c =
    let f = g.F.Field in (
      product_more g.met.F.Field.laws f.places g.met.F.Field.origin c.args.p.now (coefs f.places c.args.q.now) (coefs f.places c.loop-i.out) (coefs f.places c.add_scaled.new.into)
          c.loop-i.i c.read.result c.read.ensures c.loop-i.invariant.0 c.add_scaled.ensures.is,
      c.add_scaled.ensures.placed c.loop-i.invariant.1,
    )

pub returns : goal.returns
returns g c =
    let e = take_all c.loop-i.i c.args.p.now c.loop-i-test.false in
    let inv = c.loop-i.invariant.0 in
    record { is = cc; placed = c.loop-i.invariant.1 }
