use Rattle.std.proofs.Common.{◌*◌, ◌≤◌}
use Rattle.bits.proofs.Rank.{RankPart}
use Rattle.bits.specs.Packed.{matrix}
use Rattle.matrices.proofs.count_pivots.Given as goal

abbrev pub invariant-loop-c : goal.invariant-loop-c
invariant-loop-c l = (l.k ≤ l.c) × RankPart l.rows (8 * l.width) l.c l.k (matrix l.width l.initial.m) (matrix l.width l.m)
