use Rattle.polys.proofs.One.{one_division}
use Rattle.polys.proofs.arithmetic.one_division_stands.Goals as goal

pub returns : goal.returns
returns g c = one_division g.met.F.Field.laws
