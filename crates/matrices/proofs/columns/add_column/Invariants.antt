use Rattle.std.proofs.Common.{◌*◌}
use Rattle.bits.specs.Packed.{matrix}
use Rattle.matrices.specs.Columns.{bits_of, ColumnAdded}
use Rattle.matrices.proofs.columns.add_column.Given as goal

abbrev pub invariant-loop-r : goal.invariant-loop-r
invariant-loop-r l =
    ColumnAdded 0 (l.some * l.r) (8 * l.width) l.col (bits_of l.some l.numbers) (matrix l.width l.initial.m) (matrix l.width l.m)
