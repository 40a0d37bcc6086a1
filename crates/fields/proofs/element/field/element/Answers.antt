use Rattle.std.proofs.Common.{refl}
use Rattle.fields.specs.Elements.{is_at}
use Rattle.fields.proofs.element.field.element.Goals as goal

pub returns : goal.returns
returns g c = is_at g.A.Arithmetic _ c.args.place c.requires refl
