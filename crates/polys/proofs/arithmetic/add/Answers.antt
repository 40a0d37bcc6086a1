use Rattle.std.proofs.Common.{arith, take_all}
use Rattle.polys.specs.Coefs.{coefs}
use Rattle.polys.proofs.Steps.{added_none, added_more}
use Rattle.polys.proofs.Places.{placed_set, number_below}
use Rattle.polys.proofs.arithmetic.add.Goals as goal

pub loop-i-init : goal.loop-i-init
loop-i-init g c =
    let f = g.F.Field in
    (added_none g.met.F.Field.laws f.places g.met.F.Field.origin (coefs f.places c.args.into.now), λ h. h)

pub loop-i-preserved : goal.loop-i-preserved
loop-i-preserved g c =
    let f = g.F.Field in (
      added_more g.met.F.Field.laws f.places g.met.F.Field.origin c.args.into.now c.loop-i.into c.args.p.now c.loop-i.i c.place.result
          (omega arith) (cc) c.loop-i.invariant.0,
      λ h. placed_set f.BITS c.loop-i.into c.loop-i.i c.place.result (omega arith) (c.loop-i.invariant.1 h) (number_below f.places c.place.result _ c.place.ensures),
    )

pub returns : goal.returns
returns g c =
    let e = take_all c.loop-i.i c.args.p.now c.loop-i-test.false in
    let inv = c.loop-i.invariant.0 in
    record { is = cc; placed = c.loop-i.invariant.1 }
