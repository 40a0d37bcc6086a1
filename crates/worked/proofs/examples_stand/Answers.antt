use Rattle.worked.proofs.Computed.{examples}
use Rattle.worked.proofs.examples_stand.Goals as goal

pub returns-clause-stand : goal.returns-clause-stand
returns-clause-stand c = examples
