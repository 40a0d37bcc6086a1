use Rattle.std.proofs.Common.{◌≡◌, ℕ, ◌^◌, List, sym, ap, ◌∙◌, subst, pow_mono, arith}
use Rattle.std.specs.List.{range_with_len}
use Rattle.std.proofs.lemmas.List.{map-id}
use Rattle.shuffles.specs.Shuffle.{shuffled}
use Rattle.shuffles.specs.Orders.{order, Permutation}
use Rattle.shuffles.proofs.Shuffles.{order_permutes}
use Rattle.goppa.specs.Codes.{code_list}
use Rattle.goppa.proofs.code.code_of.Goals as goal

pub count_from-requires : goal.count_from-requires
count_from-requires g c = omega (arith, pow_mono {i = g.F.Field.BITS} {j = 16} c.requires.1)

pub returns : goal.returns
unfolding order
returns g c =
    let m = g.F.Field.BITS in
    let seed = c.args.seed.now in
    let counted : c.count_from.new.items ≡ range_with_len 0 (2 ^ m) = sym (map-id c.count_from.new.items) ∙ c.count_from.ensures ∙ ap (range_with_len 0) c.requires.0 in
    let shuffles : c.shuffle.new.items ≡ shuffled seed c.count_from.new.items = c.shuffle.ensures.after in
    let e : c.shuffle.new.items ≡ code_list m seed = shuffles ∙ ap (λ (xs : List ℕ). shuffled seed xs) counted in
    let P : List ℕ → Type 0 = λ l. Permutation (2 ^ m) l in
    record { after = e; once = subst P (sym e) (order_permutes (2 ^ m) seed) }
