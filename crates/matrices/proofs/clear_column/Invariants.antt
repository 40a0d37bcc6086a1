use Rattle.std.proofs.Common.{◌*◌}
use Rattle.bits.proofs.Elimination.{Cleared}
use Rattle.bits.specs.Packed.{matrix}
use Rattle.matrices.proofs.clear_column.Given as goal

abbrev pub invariant-loop-i : goal.invariant-loop-i
invariant-loop-i l = Cleared l.rows (8 * l.width) l.k l.c l.i (matrix l.width l.initial.m) (matrix l.width l.m)
