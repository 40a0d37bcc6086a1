use Rattle.std.proofs.Common.{◌≡◌, ℕ, Bool, true, false, rules}
use Rattle.std.proofs.lemmas.Iterator.{first_from_Range}
use Rattle.bits.specs.Packed.{matrix}
use Rattle.matrices.proofs.pivot.Goals as goal

pub returns : goal.returns
returns c =
    let bit : ℕ → Bool = λ i. matrix c.args.width c.args.m.now i c.args.c in
    first_from_Range _ _ _ c.find.result (λ i. bit i ≡ true) (λ i. bit i ≡ false) c.find.ensures.ran (λ x q k. search rules) (λ x q k. search rules)
