use Rattle.std.proofs.Common.{◌≡◌, ◌<◌, length, get_or, ◌∙◌, arith}
use Rattle.polys.proofs.Points.{below_set, above_set}
use Rattle.polys.proofs.Steps.{scaled_all}
use Rattle.polys.proofs.Places.{placed_all, number_below}
use Rattle.polys.proofs.arithmetic.scale.Goals as goal

pub loop-x-preserved : goal.loop-x-preserved
loop-x-preserved g c =
    let f = g.F.Field.ops in
    let pl = g.F.Field.places in
    let inv = c.loop-x.invariant in
    let within : c.loop-x.x-index < length c.loop-x.p = omega arith in
    let read = inv.1 c.loop-x.x-index (omega arith) in (
      below_set c.loop-x.p c.loop-x.x-index c.place.result within (λ j w. w ≡ pl.num (f.mul c.args.c (pl.at (get_or c.args.p.now j 0)))) inv.0 (cc),
      λ j h. above_set c.loop-x.p c.loop-x.x-index c.place.result within j h ∙ inv.1 j (omega arith),
    )

pub returns : goal.returns
returns g c =
    let pl = g.F.Field.places in
    let inv = c.loop-x.invariant.0 in
    record {
      is = scaled_all g.met.F.Field.laws pl g.met.F.Field.origin c.args.p.now c.loop-x.p c.args.c (omega arith) (λ j h. inv j (omega arith));
      placed = placed_all g.F.Field.BITS c.loop-x.p (λ j h. number_below pl (get_or c.loop-x.p j 0) _ (inv j (omega arith)));
    }
