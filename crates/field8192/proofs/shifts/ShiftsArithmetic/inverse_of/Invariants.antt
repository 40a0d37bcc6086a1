use Rattle.std.proofs.Common.{◌≡◌, ◌<◌}
use Rattle.field8192.specs.Product.{ones}
use Rattle.field8192.proofs.shifts.ShiftsArithmetic.inverse_of.Given as goal

abbrev pub invariant-loop-i : goal.invariant-loop-i
invariant-loop-i l = (l.r ≡ ones l.i l.a) × (l.r < 8192)
