use Rattle.std.proofs.Common.{◌≡◌, ap, ap₂, ◌∙◌}
use Rattle.fields.specs.Elements.{at, squared}
use Rattle.fields.proofs.element.field.ElementBinaryField.square_root.Goals as goal

pub returns : goal.returns
returns g c =
    let a = g.A.Arithmetic in
    let r : c.element.result ≡ at a (a.root c.args.self.place) = c.element.ensures ∙ ap (at a) c.root_of.ensures.is in
    ap₂ (λ x y. at a (a.mul x.place y.place)) r r ∙ squared a g.met.A.Arithmetic.roots c.args.self
