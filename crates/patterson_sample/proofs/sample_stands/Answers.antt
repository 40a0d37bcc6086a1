use Rattle.patterson_sample.proofs.Laws.{perfect}
use Rattle.patterson_sample.proofs.Sample.{code, prepared, stopped, decoded}
use Rattle.patterson_sample.proofs.sample_stands.Goals as goal

pub returns : goal.returns
returns c = record { field = perfect; code = code; prepared = prepared; stopped = stopped; decoded = decoded }
