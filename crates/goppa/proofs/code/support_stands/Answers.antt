use Rattle.goppa.proofs.Support.{off_support}
use Rattle.goppa.proofs.code.support_stands.Goals as goal

pub returns : goal.returns
returns g c = off_support g.F.Field.ops g.F.Field.places
