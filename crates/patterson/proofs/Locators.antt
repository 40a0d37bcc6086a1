-- The locator of points is zero at these and nowhere else.
use mathlib.Core.Path.{◌≡◌, ap, ◌∙◌}
use mathlib.Core.List.{List, [], ◌∷◌}
use mathlib.Core.Logic.{inl, inr}
use Rattle.algebra.specs.Field.{Ops, Laws}
use Rattle.algebra.proofs.Rings.{ring_laws, mul_zero, zero_mul}
use Rattle.patterson.specs.Points.{In}
use Rattle.patterson.specs.Locator.{locator}
use Rattle.patterson.proofs.Elements.{sum_zero, zero_sum, nonzero_mul}

module _ {A : Type 0} {f : Ops A} (k : Laws f) where
  pub locator_zero : (es : List A) (x : A) → In x es → locator f es x ≡ f.zero
  locator_zero [] x m = absurd m
  locator_zero (α ∷ es) x m =
      elim m [
        | inl e ↦ ap (λ w. f.mul w (locator f es x)) (sum_zero k e) ∙ zero_mul (ring_laws k) (locator f es x)
        | inr n ↦ ap (f.mul (f.add x α)) (locator_zero es x n) ∙ mul_zero (ring_laws k) (f.add x α)
      ]

  pub locator_nonzero : (es : List A) (x : A) → (In x es → ⊥) → locator f es x ≡ f.zero → ⊥
  locator_nonzero [] x n e = k.one_zero e
  locator_nonzero (α ∷ es) x n e = nonzero_mul k (λ z. n (inl (zero_sum k z))) (locator_nonzero es x (λ m. n (inr m))) e
