use Rattle.std.proofs.Common.{◌≡◌, ℕ, ◌*◌, ◌<◌, false, length}
use Rattle.bits.specs.Kernels.{independent}
use Rattle.bits.specs.Packed.{matrix}
use Rattle.bits.proofs.Elimination.{PartDone}
use Rattle.shuffles.specs.Orders.{order}
use Rattle.goppa.specs.Matrix.{mixed_matrix}
use Rattle.keys.specs.Seeds.{seed_of}
use Rattle.keys.proofs.candidates.first_usable.Given as goal

abbrev pub invariant-loop-c : goal.invariant-loop-c
invariant-loop-c g l = PartDone l.rows (8 * l.body) l.c (matrix l.body l.initial.square) (matrix l.body l.square)

abbrev pub invariant-seeds : goal.invariant-seeds
invariant-seeds g l =
    (k : ℕ) → k < l.i
    → independent (8 * l.body) (mixed_matrix g.F.Field.ops g.F.Field.places (length l.initial.column) l.code.g.now l.code.support.now (order (length l.initial.positions) (seed_of l.seeds k))) ≡ false
