use Rattle.std.proofs.Common.{◌+◌, length, sym, ◌∙◌, arith}
use Rattle.goppa.proofs.Quotients.{value_past}
use Rattle.goppa.proofs.columns.scaled_quotient.Goals as goal

pub loop-r-init : goal.loop-r-init
loop-r-init g c = (
  c.zero-q.ensures ∙ sym (value_past g.met.F.Field.laws g.F.Field.places g.met.F.Field.origin c.args.g.now c.args.a (length c.args.out.now + 1) (omega arith)),
  λ j h l. absurd (omega arith),
)

pub returns : goal.returns
returns g c = λ j h. c.loop-r.invariant.1 j (omega arith) h
