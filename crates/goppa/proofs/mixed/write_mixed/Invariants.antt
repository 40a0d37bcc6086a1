use Rattle.std.proofs.Common.{◌*◌, length}
use Rattle.bits.specs.Packed.{matrix}
use Rattle.goppa.specs.Matrix.{mixed_matrix}
use Rattle.goppa.proofs.Matrices.{WrittenColumns}
use Rattle.goppa.proofs.mixed.write_mixed.Given as goal

abbrev pub invariant-loop-j : goal.invariant-loop-j
invariant-loop-j g l =
    WrittenColumns (g.F.Field.BITS * length l.initial.column_of) (8 * l.width) l.j
    (mixed_matrix g.F.Field.ops g.F.Field.places (length l.initial.column_of) l.code.g.now l.code.support.now l.order) (matrix l.width l.m)
