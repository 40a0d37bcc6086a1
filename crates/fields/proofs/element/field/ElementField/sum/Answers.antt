use Rattle.std.proofs.lemmas.Nat.{xor_lt}
use Rattle.fields.proofs.element.field.ElementField.sum.Goals as goal

pub element-requires : goal.element-requires
element-requires g c = xor_lt g.A.Arithmetic.BITS c.args.self.place c.args.other.place c.args.self.below c.args.other.below
