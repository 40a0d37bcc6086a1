use Rattle.std.proofs.Common.{ap, ◌^◌, ◌∙◌}
use Rattle.std.proofs.lemmas.Nat.{pow_pos}
use Rattle.algebra.proofs.Numbers.{within_is}
use Rattle.fields.specs.Elements.{at, is_at}
use Rattle.fields.proofs.element.field.ElementField.inverse.Goals as goal

pub returns-then-self-eq0 : goal.returns-then-self-eq0
returns-then-self-eq0 g c = let a = g.A.Arithmetic in is_at a c.args.self 0 (pow_pos a.BITS) c.if-self-eq0.true

pub returns : goal.returns
returns g c =
    let a = g.A.Arithmetic in (
      λ e. c.if-self-eq0.false (ap (λ x. x.place) e ∙ within_is (2 ^ a.BITS) 0 (pow_pos a.BITS)),
      c.element.ensures ∙ ap (at a) c.inverse_of.ensures.is,
    )
