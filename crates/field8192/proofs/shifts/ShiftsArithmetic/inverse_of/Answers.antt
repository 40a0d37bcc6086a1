use Rattle.std.proofs.Common.{◌≡◌, ℕ, sym, refl, ap, ◌∙◌, add-one, arith, lit<}
use Rattle.field8192.specs.Product.{mul8192, square8192, ones, inv8192}
use Rattle.field8192.proofs.shifts.ShiftsArithmetic.inverse_of.Goals as goal

pub loop-i-init : goal.loop-i-init
unfolding ones
loop-i-init c = (refl, lit< tt)

pub loop-i-preserved : goal.loop-i-preserved
unfolding ones
loop-i-preserved c = (
  c.times-r.ensures.is ∙ ap (mul8192 c.args.a) (c.square.ensures.is ∙ ap square8192 c.loop-i.invariant.0)
      ∙ ap (λ (n : ℕ). ones n c.args.a) (sym (add-one c.loop-i.i)),
  c.times-r.ensures.below,
)

pub returns : goal.returns
unfolding inv8192
returns c =
    let e : c.loop-i.i ≡ 12 = omega arith in
    record {
      is = c.square-2.ensures.is ∙ ap square8192 (c.loop-i.invariant.0 ∙ ap (λ (n : ℕ). ones n c.args.a) e);
      below = c.square-2.ensures.below;
    }
