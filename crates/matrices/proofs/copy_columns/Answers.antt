use Rattle.std.proofs.Common.{arith}
use Rattle.matrices.proofs.Bytes.{row_before}
use Rattle.matrices.proofs.Rows.{copied_more}
use Rattle.matrices.proofs.copy_columns.Goals as goal

pub copy_part-requires : goal.copy_part-requires
copy_part-requires c = (
  omega (arith, row_before c.args.width c.loop-row.row c.args.rows (omega arith)),
  omega (arith, row_before c.args.some c.loop-row.row c.args.rows (omega arith)),
)

pub loop-row-preserved : goal.loop-row-preserved
loop-row-preserved c =
    copied_more c.args.width c.args.some c.args.skip c.loop-row.row c.args.m.now c.args.out.now c.loop-row.out
    c.copy_part.new.out c.copy_part.ensures c.loop-row.invariant
