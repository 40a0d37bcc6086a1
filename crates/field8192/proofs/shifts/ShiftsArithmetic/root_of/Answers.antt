use Rattle.std.proofs.Common.{ℕ, sym, refl, ap, ◌∙◌, add-one}
use Rattle.field8192.specs.Product.{square8192, squares}
use Rattle.field8192.proofs.shifts.ShiftsArithmetic.root_of.Goals as goal

pub loop-n-init : goal.loop-n-init
unfolding squares
loop-n-init c = (refl, c.requires)

pub loop-n-preserved : goal.loop-n-preserved
unfolding squares
loop-n-preserved c = (
  c.square-r.ensures.is ∙ ap square8192 c.loop-n.invariant.0 ∙ ap (λ (n : ℕ). squares n c.args.a) (sym (add-one c.loop-n.n)),
  c.square-r.ensures.below,
)
