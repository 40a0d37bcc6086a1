use Rattle.std.proofs.Common.{sym, ◌∙◌, arith, below_more}
use Rattle.bits.proofs.Search.{first_is, first_none}
use Rattle.matrices.proofs.Bytes.{row_before}
use Rattle.soundness.proofs.Rowwise.{row_differs}
use Rattle.soundness.proofs.comparing.first_difference.Goals as goal

pub slice_bounds-differ-end : goal.slice_bounds-differ-end
slice_bounds-differ-end c = omega (arith, row_before c.args.width c.loop-i.i c.args.rows (omega arith))

pub slice_bounds-differ-end-in-loop-i : goal.slice_bounds-differ-end-in-loop-i
slice_bounds-differ-end-in-loop-i c = omega (arith, row_before c.args.width c.loop-i.i c.args.rows (omega arith))

pub returns-then-differ : goal.returns-then-differ
returns-then-differ c = (
  omega arith,
  sym (first_is c.args.rows _ c.loop-i.i (omega arith) c.loop-i.invariant
      (λ l. sym (row_differs c.args.width c.loop-i.i _ _ c.args.a.now c.args.b.now (omega arith) (omega arith)) ∙ sym c.if-differ.ensures)),
)

pub loop-i-preserved : goal.loop-i-preserved
loop-i-preserved c =
    below_more _ _ c.loop-i.invariant
    (sym (row_differs c.args.width c.loop-i.i _ _ c.args.a.now c.args.b.now (omega arith) (omega arith)) ∙ sym c.if-differ.ensures)

pub returns : goal.returns
returns c = first_none c.args.rows _ (λ j l. c.loop-i.invariant j (omega arith))
