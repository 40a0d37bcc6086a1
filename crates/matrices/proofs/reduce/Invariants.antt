use Rattle.std.proofs.Common.{◌*◌}
use Rattle.bits.proofs.Elimination.{PartDone}
use Rattle.bits.specs.Packed.{matrix}
use Rattle.matrices.proofs.reduce.Given as goal

abbrev pub invariant-loop-c : goal.invariant-loop-c
invariant-loop-c l = PartDone l.rows (8 * l.width) l.c (matrix l.width l.initial.m) (matrix l.width l.m)
