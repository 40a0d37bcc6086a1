use Rattle.std.proofs.Common.{ℕ, ◌||◌, eqb, List, get_or, sym, ap, ◌∙◌, arith}
use Rattle.std.proofs.lemmas.List.{take_all}
use Rattle.shuffles.specs.Orders.{among}
use Rattle.soundness.proofs.Counting.{among_none, among_more}
use Rattle.soundness.proofs.reading.seen.Goals as goal

pub loop-y-init : goal.loop-y-init
loop-y-init c = sym (among_none c.args.x)

pub loop-y-preserved : goal.loop-y-preserved
loop-y-preserved c =
    ap (λ h. h || eqb (get_or c.args.numbers.now c.loop-y.y-index 0) c.args.x) c.loop-y.invariant
    ∙ sym (among_more c.args.numbers.now c.loop-y.y-index c.args.x (omega arith))

pub returns : goal.returns
returns c = c.loop-y.invariant ∙ ap (λ (l : List ℕ). among l c.args.x) (take_all c.loop-y.y-index c.args.numbers.now (omega arith))
