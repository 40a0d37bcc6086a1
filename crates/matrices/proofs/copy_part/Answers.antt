use Rattle.std.proofs.Common.{rules}
use Rattle.std.proofs.lemmas.List.{places}
use Rattle.matrices.proofs.copy_part.Goals as goal

pub returns : goal.returns
returns c =
    record {
      done = λ q l. search (rules, places);
      before = λ p l. search (rules, places);
      after = λ p l. search (rules, places);
    }
