use Rattle.std.proofs.Common.{◌≡◌, ℕ, ◌<◌, false, not, ◌||◌, ltb, get_or, take}
use Rattle.shuffles.specs.Orders.{among}
use Rattle.soundness.proofs.reading.first_unfit.Given as goal

abbrev pub invariant-loop-j : goal.invariant-loop-j
invariant-loop-j l = (k : ℕ) → k < l.j → (not (ltb (get_or l.support k 0) l.size) || among (take k l.support) (get_or l.support k 0)) ≡ false
