use Rattle.std.proofs.Common.{◌≡◌, ◌≤◌}
use Rattle.bits.specs.Vectors.{weight}
use Rattle.bits.specs.Packed.{vector}
use Rattle.decoder.proofs.candidates.weight_of.Given as goal

abbrev pub invariant-loop-j : goal.invariant-loop-j
invariant-loop-j l = (l.ones ≡ weight l.j (vector l.v)) × (l.ones ≤ l.j)
