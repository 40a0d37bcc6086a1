use Rattle.polys.proofs.One.{one_gcd}
use Rattle.polys.proofs.euclid.one_gcd_stands.Goals as goal

pub returns : goal.returns
returns g c = one_gcd g.met.F.Field.laws
