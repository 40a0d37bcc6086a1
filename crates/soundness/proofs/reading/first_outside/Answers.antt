use Rattle.std.proofs.Common.{ℕ, Bool, not, ltb, rules}
use Rattle.std.proofs.lemmas.Iterator.{YieldsList-from_slice}
use Rattle.std.proofs.lemmas.Iterator.Search.{position_from_yields_List}
use borrow.Author.Tests.{tests}
use Rattle.soundness.proofs.Searches.{found_position}
use Rattle.soundness.proofs.reading.first_outside.Goals as goal

pub returns : goal.returns
returns c =
    let test : ℕ → Bool = λ x. not (ltb x c.args.size) in
    found_position test c.args.numbers.now c.position.result
    (position_from_yields_List test _ _ c.position.result c.position.ensures.ran (YieldsList-from_slice c.args.numbers.now cc) (λ x b q k. search (rules, tests)))
