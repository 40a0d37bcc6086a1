use Rattle.field8192.specs.Product.{square8192}
use Rattle.field8192.proofs.shifts.square.Goals as goal

pub returns : goal.returns
unfolding square8192
returns c = record { is = c.times.ensures.is; below = c.times.ensures.below }
