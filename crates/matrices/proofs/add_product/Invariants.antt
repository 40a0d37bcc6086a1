use Rattle.std.proofs.Common.{◌*◌, length}
use Rattle.bits.specs.Vectors.{dot}
use Rattle.bits.specs.Packed.{vector, matrix}
use Rattle.matrices.proofs.Parts.{AddedBelow}
use Rattle.matrices.proofs.add_product.Given as goal

abbrev pub invariant-loop-i : goal.invariant-loop-i
invariant-loop-i l =
    AddedBelow l.i (λ i. dot (8 * length l.v) (matrix (length l.v) l.m i) (vector l.v)) l.initial.out l.out
