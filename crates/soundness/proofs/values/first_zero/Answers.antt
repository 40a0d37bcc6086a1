use Rattle.std.proofs.Common.{ℕ, Bool, eqb, rules}
use Rattle.std.proofs.lemmas.Iterator.{YieldsList-from_slice}
use Rattle.std.proofs.lemmas.Iterator.Search.{position_from_yields_List}
use borrow.Author.Tests.{tests}
use Rattle.soundness.proofs.Searches.{found_position}
use Rattle.soundness.proofs.values.first_zero.Goals as goal

pub returns : goal.returns
returns c =
    let test : ℕ → Bool = λ x. eqb x 0 in
    found_position test c.args.values.now c.position.result
    (position_from_yields_List test _ _ c.position.result c.position.ensures.ran (YieldsList-from_slice c.args.values.now cc) (λ x b q k. search (rules, tests)))
