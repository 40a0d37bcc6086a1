use Rattle.std.proofs.Common.{◌≡◌, ◌<◌}
use Rattle.field8192.specs.Product.{squares}
use Rattle.field8192.proofs.shifts.ShiftsArithmetic.root_of.Given as goal

abbrev pub invariant-loop-n : goal.invariant-loop-n
invariant-loop-n l = (l.r ≡ squares l.n l.a) × (l.r < 8192)
