use Rattle.std.proofs.Common.{◌≡◌, ◌≢◌, Option, Some, None, MatchOption, refl, sym, ap, ◌∙◌}
use Rattle.std.specs.Option.{IsSome}
use Rattle.std.proofs.lemmas.Option.{MatchOption-at_some}
use Rattle.polys.specs.Coefs.{coefs}
use Rattle.polys.proofs.Lists.{coefs_at}
use Rattle.polys.proofs.arithmetic.leading_inverse.Goals as goal

some : {X : Type 0} (o : Option X) (P : Type 0) (Q : X → Type 0) → MatchOption o P Q → (P → ⊥) → IsSome o
some None P Q h never = absurd (never h)
some (Some x) P Q h never = refl

pub unwrap-requires : goal.unwrap-requires
unwrap-requires g c =
    some c.inverse.result _ _ c.inverse.ensures (λ e. c.requires.1.0 (coefs_at g.met.F.Field.laws g.F.Field.places c.args.p.now c.args.n ∙ sym c.read.ensures ∙ e))

pub returns : goal.returns
returns g c =
    let k = g.met.F.Field.laws in
    let f = g.F.Field.ops in
    let got : (c.read.result ≢ f.zero) × (c.unwrap.result ≡ f.inv c.read.result) = MatchOption-at_some _ _ c.unwrap.result c.unwrap.ensures c.inverse.ensures in
    let is : coefs g.F.Field.places c.args.p.now c.args.n ≡ c.read.result = coefs_at k g.F.Field.places c.args.p.now c.args.n ∙ sym c.read.ensures in
    record {
      is = got.1 ∙ ap f.inv (sym is);
      lead = record { top = ap (λ x. f.mul x c.unwrap.result) is ∙ ap (f.mul c.read.result) got.1 ∙ k.mul_inv c.read.result got.0; under = c.requires.1.1 };
    }
