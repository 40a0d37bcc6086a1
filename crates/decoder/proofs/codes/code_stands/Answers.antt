use Rattle.decoder.proofs.Lists.{code_of_list}
use Rattle.decoder.proofs.codes.code_stands.Goals as goal

pub returns : goal.returns
returns g c = code_of_list g.F.Field.ops g.F.Field.places
