use Rattle.std.proofs.Common.{◌≡◌, ℕ, ◌*◌, ◌<◌, false, not, eqb}
use Rattle.bits.specs.Vectors.{◌⊕◌, weight}
use Rattle.bits.specs.Packed.{matrix}
use Rattle.soundness.proofs.comparing.first_difference.Given as goal

abbrev pub invariant-loop-i : goal.invariant-loop-i
invariant-loop-i l = (k : ℕ) → k < l.i → not (eqb (weight (8 * l.width) (λ j. matrix l.width l.a k j ⊕ matrix l.width l.b k j)) 0) ≡ false
