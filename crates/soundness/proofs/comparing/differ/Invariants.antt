use Rattle.std.proofs.Common.{◌≡◌, ◌*◌, not, eqb, length}
use Rattle.bits.specs.Vectors.{◌⊕◌, weight}
use Rattle.bits.specs.Packed.{vector}
use Rattle.soundness.proofs.comparing.differ.Given as goal

abbrev pub invariant-loop-x : goal.invariant-loop-x
invariant-loop-x l = l.hit ≡ not (eqb (weight (8 * length l.yielded) (λ j. vector l.a j ⊕ vector l.b j)) 0)
