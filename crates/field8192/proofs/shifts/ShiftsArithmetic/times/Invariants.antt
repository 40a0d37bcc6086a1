use Rattle.std.proofs.Common.{◌≡◌, ◌<◌}
use Rattle.field8192.specs.Folds.{grouped}
use Rattle.field8192.proofs.shifts.ShiftsArithmetic.times.Given as goal

abbrev pub invariant-loop-i : goal.invariant-loop-i
invariant-loop-i l = (l.r ≡ grouped l.i l.a l.b) × (l.r < 8192)
