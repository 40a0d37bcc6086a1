use Rattle.std.proofs.Common.{arith}
use Rattle.polys.specs.Coefs.{coefs}
use Rattle.polys.proofs.Part.{part_write}
use Rattle.polys.proofs.Places.{placed_rest, placed_part}
use Rattle.polys.proofs.arithmetic.add_scaled.Goals as goal

pub returns : goal.returns
returns g c =
    let pl = g.F.Field.places in
    let m = g.F.Field.BITS in
    record {
      is = part_write g.met.F.Field.laws pl c.args.into.now c.add_multiple.new.into (coefs pl c.args.p.now) c.args.c c.args.shift (omega arith) (omega arith) c.add_multiple.ensures.is;
      placed = λ h. placed_part m c.args.into.now c.add_multiple.new.into c.args.shift (omega arith) (omega arith) h (c.add_multiple.ensures.placed (placed_rest m c.args.into.now c.args.shift h));
    }
