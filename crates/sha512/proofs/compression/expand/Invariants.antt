use Rattle.std.proofs.Common.{◌≡◌, ◌-◌, length, take}
use Rattle.sha512.specs.Sha512.{schedule}
use Rattle.sha512.proofs.compression.expand.Given as goal

abbrev pub invariant-loop-t : goal.invariant-loop-t
invariant-loop-t l = (length l.w ≡ 80) × (take l.t l.w ≡ schedule (take 16 l.initial.w) (l.t - 16))
