use Rattle.std.proofs.Common.{◌≡◌, ℕ, ◌<◌, length, get_or}
use Rattle.sha3.specs.Sponge.{byte_at}
use Rattle.sha3.proofs.sponge.squeeze.Given as goal

abbrev pub invariant-loop-i : goal.invariant-loop-i
invariant-loop-i l = (length l.out ≡ 32) × ((k : ℕ) → k < l.i → get_or l.out k 0 ≡ byte_at l.a k)
