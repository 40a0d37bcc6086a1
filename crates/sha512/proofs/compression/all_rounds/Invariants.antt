use Rattle.std.proofs.Common.{◌≡◌}
use Rattle.sha512.specs.Sha512.{rounds}
use Rattle.sha512.proofs.compression.all_rounds.Given as goal

abbrev pub invariant-loop-t : goal.invariant-loop-t
invariant-loop-t l = l.v ≡ rounds l.initial.v l.w l.t
