use Rattle.std.proofs.Common.{◌*◌}
use Rattle.bits.proofs.Elimination.{settled_after}
use Rattle.bits.specs.Packed.{matrix}
use Rattle.matrices.proofs.settle.Goals as goal

pub returns : goal.returns
returns c =
    let h = c.in-Some.ensures in (
      (c.in-Some.p, (h.0, h.1, h.2)),
      settled_after c.args.rows (8 * c.args.width) c.args.k c.args.c (matrix c.args.width c.args.m.now)
          (matrix c.args.width c.set_pivot.new.m) (matrix c.args.width c.clear_column.new.m) c.set_pivot.ensures.kept c.clear_column.ensures,
    )
