use Rattle.std.proofs.Common.{◌+◌, ◌*◌}
use Rattle.bits.specs.Packed.{matrix}
use Rattle.matrices.specs.Columns.{number_bit, ColumnAdded}
use Rattle.matrices.proofs.columns.add_number.Given as goal

abbrev pub invariant-loop-i : goal.invariant-loop-i
invariant-loop-i l =
    ColumnAdded l.row (l.row + l.i) (8 * l.width) l.col (number_bit l.x) (matrix l.width l.initial.m) (matrix l.width l.m)
