use Rattle.std.proofs.Common.{◌≡◌, ℕ, List, length, sym, ap, ◌∙◌, subst}
use Rattle.std.proofs.lemmas.List.{map-id}
use Rattle.shuffles.specs.Shuffle.{shuffled}
use Rattle.shuffles.specs.Orders.{order, Permutation}
use Rattle.shuffles.proofs.Shuffles.{order_permutes}
use Rattle.shuffles.proofs.order_by.Goals as goal

pub returns : goal.returns
unfolding order
returns c =
    let n = length c.args.positions.now in
    let seed = c.args.seed.now in
    let counted = sym (map-id c.count_from.new.items) ∙ c.count_from.ensures in
    let e : c.shuffle.new.items ≡ order n seed = c.shuffle.ensures.after ∙ ap (λ (xs : List ℕ). shuffled seed xs) counted in
    let P : List ℕ → Type 0 = λ l. Permutation n l in
    record { after = e; permutes = subst P (sym e) (order_permutes n seed) }
