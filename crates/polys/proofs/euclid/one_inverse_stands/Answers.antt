use Rattle.polys.proofs.One.{one_inverse}
use Rattle.polys.proofs.euclid.one_inverse_stands.Goals as goal

pub returns : goal.returns
returns g c = one_inverse g.met.F.Field.laws
