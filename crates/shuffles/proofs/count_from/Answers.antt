use Rattle.std.proofs.Common.{◌≡◌, ◌+◌, length, map, sym, ◌∙◌, arith}
use Rattle.std.proofs.lemmas.List.FromFn.{get_or-range_with_len, length-range_with_len}
use Rattle.std.proofs.lemmas.List.Edits.{fill_by_more}
use Rattle.std.proofs.lemmas.List.{map-set, length-map}
use Rattle.std.proofs.lemmas.Grind.{same_number_lists}
use Rattle.std.specs.List.{range_with_len}
use Rattle.shuffles.proofs.count_from.Goals as goal

pub overflow_add-first : goal.overflow_add-first
overflow_add-first g c = omega (arith, g.met.T.Counted.limited)

pub loop-i-preserved : goal.loop-i-preserved
loop-i-preserved g c =
    let xs = map g.T.Numbered.number c.loop-i.items in
    let n : length xs ≡ length c.loop-i.items = length-map c.loop-i.items g.T.Numbered.number in
    rw (map-set g.T.Numbered.number c.loop-i.items c.loop-i.i c.counted.result, c.counted.ensures)
    (fill_by_more (λ k. c.args.first + k) xs c.loop-i.i 0 (omega (arith, n)) c.loop-i.invariant)

pub returns : goal.returns
returns g c =
    let xs = map g.T.Numbered.number c.loop-i.items in
    let n : length xs ≡ length c.loop-i.items = length-map c.loop-i.items g.T.Numbered.number in
    let m = length-range_with_len c.args.first (length c.args.items.now) in
    same_number_lists xs (range_with_len c.args.first (length c.args.items.now)) (omega (arith, n, m))
    (λ k l. c.loop-i.invariant k (omega (arith, n)) ∙ sym (get_or-range_with_len c.args.first (length c.args.items.now) k 0 (omega (arith, n))))
