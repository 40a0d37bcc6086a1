-- The square root of a polynomial at points: the roots of its coefficients, and a root of X.
use mathlib.Core.Path.{◌≡◌, refl, sym, ap₂, ◌∙◌}
use mathlib.Core.List.{List, [], ◌∷◌}
use Rattle.algebra.specs.Field.{Ops, Laws, Roots}
use Rattle.algebra.specs.Poly.{eval}
use Rattle.algebra.proofs.Solve.{v, o, i, ◌⊕◌, ◌⊗◌}
use Rattle.patterson.specs.SquareRoot.{even_roots, odd_roots}
use Rattle.patterson.specs.Locator.{from_parts}
use Rattle.patterson.proofs.Elements.{ring, by_two}

module _ {A : Type 0} {f : Ops A} (k : Laws f) (r : Roots f) where
  pub apart_value : (p : List A) (x : A) → eval f p x ≡ from_parts f (eval f (even_roots r p)) (eval f (odd_roots r p)) x
  apart_value [] x = ring k (x ∷ []) o ((o ⊗ o) ⊕ (v 0 ⊗ (o ⊗ o))) refl
  apart_value (c ∷ p) x =
      by_two k x f.one (apart_value p x) (sym (r.squared c))
      (ring k (x ∷ c ∷ eval f p x ∷ r.root c ∷ eval f (odd_roots r p) x ∷ eval f (even_roots r p) x ∷ [])
      ((v 1 ⊕ (v 0 ⊗ v 2)) ⊕ (((v 3 ⊕ (v 0 ⊗ v 4)) ⊗ (v 3 ⊕ (v 0 ⊗ v 4))) ⊕ (v 0 ⊗ (v 5 ⊗ v 5))))
      ((v 0 ⊗ (v 2 ⊕ ((v 5 ⊗ v 5) ⊕ (v 0 ⊗ (v 4 ⊗ v 4))))) ⊕ (i ⊗ (v 1 ⊕ (v 3 ⊗ v 3)))) refl)

  -- where w is a root of x, even_roots + w·odd_roots is one of the polynomial's value
  pub root_value : (p : List A) (x w : A) → f.mul w w ≡ x
      → (y : A) → y ≡ f.add (eval f (even_roots r p) x) (f.mul w (eval f (odd_roots r p) x)) → f.mul y y ≡ eval f p x
  root_value p x w e y is =
      ap₂ f.mul is is
      ∙ by_two k (f.mul (eval f (odd_roots r p) x) (eval f (odd_roots r p) x)) f.one e (sym (apart_value p x))
      (ring k (x ∷ w ∷ eval f (even_roots r p) x ∷ eval f (odd_roots r p) x ∷ eval f p x ∷ [])
      (((v 2 ⊕ (v 1 ⊗ v 3)) ⊗ (v 2 ⊕ (v 1 ⊗ v 3))) ⊕ v 4)
      (((v 3 ⊗ v 3) ⊗ ((v 1 ⊗ v 1) ⊕ v 0)) ⊕ (i ⊗ (((v 2 ⊗ v 2) ⊕ (v 0 ⊗ (v 3 ⊗ v 3))) ⊕ v 4))) refl)
