use Rattle.matrices.specs.Rows.{ColumnsCopied}
use Rattle.matrices.proofs.copy_columns.Given as goal

abbrev pub invariant-loop-row : goal.invariant-loop-row
invariant-loop-row l = ColumnsCopied l.width l.some l.skip l.row l.m l.initial.out l.out
