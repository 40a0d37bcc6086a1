use Rattle.std.proofs.Common.{◌≡◌, take}
use Rattle.shuffles.specs.Orders.{among}
use Rattle.soundness.proofs.reading.seen.Given as goal

abbrev pub invariant-loop-y : goal.invariant-loop-y
invariant-loop-y l = l.hit ≡ among (take l.y-index l.numbers) l.x
