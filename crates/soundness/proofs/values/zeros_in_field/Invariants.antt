use Rattle.std.proofs.Common.{◌≡◌, ◌-◌, ◌≤◌}
use Rattle.bits.specs.Vectors.{weight}
use Rattle.keys.specs.Sound.{zero_at}
use Rattle.soundness.proofs.values.zeros_in_field.Given as goal

abbrev pub invariant-loop-first : goal.invariant-loop-first
invariant-loop-first g l = (l.first ≤ l.size) × (l.found ≡ weight l.first (zero_at g.F.Field.ops g.F.Field.places l.g))

abbrev pub decreases-loop-first : goal.decreases-loop-first
decreases-loop-first g l = l.size - l.first
