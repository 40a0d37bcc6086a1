use Rattle.std.proofs.Common.{◌<◌, length, ltb, get_or, take, sym, ap, ◌∙◌, arith}
use Rattle.std.proofs.lemmas.Bool.{le-ltb, not_from_false, or_left, or_right}
use Rattle.bits.proofs.Search.{first_is, first_none}
use Rattle.shuffles.specs.Orders.{among}
use Rattle.soundness.proofs.reading.first_unfit.Goals as goal
use Rattle.soundness.proofs.reading.first_unfit.Goals.{then-from-size-via-then-from-size, then-from-size-via-else-from-size+then-seen}

pub returns-then-from-size : goal.returns-then-from-size
returns-then-from-size c =
    let xs = c.args.support.now in
    let j = c.loop-j.j in
    let x = get_or xs j 0 in
    let p : j < length xs = omega arith in (
      p,
      sym (first_is (length xs) _ j (omega arith) c.loop-j.invariant
          (λ l. elim c.then-from-size.branch [
            | then-from-size-via-then-from-size w ↦ or_left _ (among (take j xs) x) (not_from_false (ltb x c.args.size) (le-ltb x c.args.size (omega arith)))
            | then-from-size-via-else-from-size+then-seen w ↦
                or_right _ (among (take j xs) x) (ap (λ k. among (take k xs) x) (omega arith) ∙ sym w.if-seen.ensures)
          ])),
    )

pub returns : goal.returns
returns c = first_none (length c.args.support.now) _ (λ j l. c.loop-j.invariant j (omega arith))
