use Rattle.std.proofs.Common.{◌≡◌, ℕ, ◌+◌, ◌<◌, eqb, List, length, get_or, sym, ap, ◌∙◌, arith}
use Rattle.std.proofs.lemmas.List.{map-id}
use Rattle.std.proofs.lemmas.List.FromFn.{get_or-range_with_len}
use Rattle.bits.specs.Vectors.{weight}
use Rattle.bits.proofs.Decision.{weight_same}
use Rattle.keys.specs.Sound.{zero_at}
use Rattle.soundness.proofs.values.zeros_from.Goals as goal

pub returns : goal.returns
returns g c =
    let n = length c.args.points.now in
    let counted : (j : ℕ) → j < n → get_or c.count_from.new.items j 0 ≡ c.args.first + j =
    λ j l. ap (λ (xs : List ℕ). get_or xs j 0) (sym (map-id c.count_from.new.items) ∙ c.count_from.ensures) ∙ get_or-range_with_len c.args.first n j 0 l in
    c.count_zeros.ensures
    ∙ (ap (λ n. weight n (λ j. eqb (get_or c.values_at.new.values j 0) 0)) (omega arith)
    ∙ weight_same (length c.args.points.now) _ _
    (λ j l. ap (λ x. eqb x 0) (c.values_at.ensures.each j (omega arith))
    ∙ ap (zero_at g.F.Field.ops g.F.Field.places c.args.g.now) (counted j l)))
