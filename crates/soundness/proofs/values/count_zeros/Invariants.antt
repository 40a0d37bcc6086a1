use Rattle.std.proofs.Common.{◌≡◌, eqb, get_or}
use Rattle.bits.specs.Vectors.{weight}
use Rattle.soundness.proofs.values.count_zeros.Given as goal

abbrev pub invariant-loop-v : goal.invariant-loop-v
invariant-loop-v l = l.found ≡ weight l.v-index (λ k. eqb (get_or l.values k 0) 0)
