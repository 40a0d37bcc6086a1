use Rattle.std.proofs.Common.{◌*◌, ◌<◌, arith}
use Rattle.bits.proofs.Elimination.{pivot_added}
use Rattle.bits.specs.Packed.{matrix}
use Rattle.matrices.proofs.Rows.{row_within}
use Rattle.matrices.proofs.set_pivot.Goals as goal

pub add_row-requires : goal.add_row-requires
add_row-requires c =
    record {
      within = (
        row_within c.args.width c.args.rows c.args.p c.args.m.now (omega arith) (omega arith),
        row_within c.args.width c.args.rows c.args.k c.args.m.now (omega arith) (omega arith),
      );
      other = omega arith;
    }

pub returns-then-p-k : goal.returns-then-p-k
returns-then-p-k c =
    let l : c.args.k < c.args.p = omega arith in
    pivot_added c.args.rows (8 * c.args.width) c.args.k c.args.c c.args.p (matrix c.args.width c.args.m.now)
    (matrix c.args.width c.add_row.new.m) (omega arith) l (omega arith) c.requires.low
    (c.requires.first.3 c.args.k (omega arith) l) c.requires.first.2 c.add_row.ensures
