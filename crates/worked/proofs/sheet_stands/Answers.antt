use Rattle.worked.proofs.Computed.{examples}
use Rattle.worked.proofs.Fields.{field_examples}
use Rattle.worked.proofs.sheet_stands.Goals as goal

pub returns : goal.returns
returns c = record { number = c.lines.ensures; earlier = examples; fields = field_examples }
