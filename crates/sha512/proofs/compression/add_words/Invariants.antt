use Rattle.std.proofs.Common.{◌≡◌, ℕ, ◌<◌, ◌≤◌, length, get_or}
use Rattle.sha512.specs.Sha512.{plus}
use Rattle.sha512.proofs.compression.add_words.Given as goal

abbrev pub invariant-loop-i : goal.invariant-loop-i
invariant-loop-i l = (length l.h ≡ 8) × ((k : ℕ) → k < l.i → get_or l.h k 0 ≡ plus (get_or l.initial.h k 0) (get_or l.v k 0)) × ((k : ℕ) → l.i ≤ k → get_or l.h k 0 ≡ get_or l.initial.h k 0)
