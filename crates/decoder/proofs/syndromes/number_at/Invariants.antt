use Rattle.std.proofs.Common.{◌≡◌, ℕ, ◌+◌, ◌-◌, ◌^◌, ◌<◌}
use Rattle.bits.specs.Packed.{vector}
use Rattle.matrices.specs.Columns.{number_bit}
use Rattle.decoder.proofs.syndromes.number_at.Given as goal

abbrev pub invariant-loop-i : goal.invariant-loop-i
invariant-loop-i l =
    (l.x < 2 ^ (l.count - l.i)) × ((j : ℕ) → j < l.count - l.i → number_bit l.x j ≡ vector l.bytes (l.from + (l.i + j)))
