use Rattle.std.proofs.Common.{◌-◌, sym, ◌∙◌, arith}
use Rattle.polys.specs.Coefs.{coefs}
use Rattle.polys.proofs.Terms.{below_less}
use Rattle.polys.proofs.Lists.{below_list, coefs_at}
use Rattle.polys.proofs.arithmetic.degree_from.Goals as goal

pub loop-i-init : goal.loop-i-init
loop-i-init g c = below_list g.met.F.Field.laws g.F.Field.places g.met.F.Field.origin c.args.p.now

pub loop-i-preserved : goal.loop-i-preserved
loop-i-preserved g c =
    let k = g.met.F.Field.laws in
    below_less k (c.loop-i.i - 1) (coefs g.F.Field.places c.args.p.now) (λ j h. c.loop-i.invariant j (omega arith))
    (coefs_at k g.F.Field.places c.args.p.now (c.loop-i.i - 1) ∙ sym c.read.ensures ∙ c.is_zero.ensures.yes c.if-not-is_zero.false)

pub returns-then-not-is_zero : goal.returns-then-not-is_zero
returns-then-not-is_zero g c = (
  omega arith,
  omega arith,
  (
    λ e. c.is_zero.ensures.no c.if-not-is_zero.true (c.read.ensures ∙ sym (coefs_at g.met.F.Field.laws g.F.Field.places c.args.p.now (c.loop-i.i - 1)) ∙ e),
    λ j h. c.loop-i.invariant j (omega arith),
  ),
)

pub returns : goal.returns
returns g c = λ j h. c.loop-i.invariant j (omega arith)
