use Rattle.std.proofs.Common.{◌≡◌, ℕ, ◌<◌, length, get_or}
use Rattle.sha512.specs.Sha512.{byte_at}
use Rattle.sha512.proofs.padding.write_digest.Given as goal

abbrev pub invariant-loop-i : goal.invariant-loop-i
invariant-loop-i l = (length l.out ≡ 32) × ((k : ℕ) → k < l.i → get_or l.out k 0 ≡ byte_at l.h k)
