-- The locator of points, Π (X + α), as a² + X·b²: the two parts by a fold over the points, and what is known of them.
use mathlib.Core.Path.{◌≡◌, refl, sym, ap, subst, ◌∙◌}
use mathlib.Core.List.{List, [], ◌∷◌}
use mathlib.Core.Logic.{inl, inr}
use Prim.Native.Nat.{suc, ◌/◌}
use native.Mathlib.Omega.{arith}
use lib.ListN.{length}
use Rattle.algebra.specs.Field.{Ops, Laws, Roots}
use Rattle.algebra.proofs.Rings.{ring_laws, zero_add, mul_zero, zero_mul}
use Rattle.algebra.proofs.Solve.{v, o, i, ◌⊕◌, ◌⊗◌}
use Rattle.patterson.specs.Points.{In, Distinct}
use Rattle.patterson.specs.Polys.{Poly}
use Rattle.patterson.specs.Locator.{locator, inverse_sum, from_parts}
use Rattle.patterson.proofs.Elements.{ring, sum_zero, zero_sum, by_two, nonzero_mul}
use Rattle.patterson.proofs.Locators.{locator_zero, locator_nonzero}
use Rattle.patterson.proofs.Polys.{poly_zero, poly_const, poly_wider, poly_add, poly_scale, poly_shift}

-- the two parts, as functions of x
abbrev mutual
  pub even_part : {A : Type 0} {f : Ops A} → Roots f → List A → A → A
  even_part {f = f} s [] x = f.one
  even_part {f = f} s (α ∷ es) x = f.add (f.mul (s.root α) (even_part s es x)) (f.mul x (odd_part s es x))

  pub odd_part : {A : Type 0} {f : Ops A} → Roots f → List A → A → A
  odd_part {f = f} s [] x = f.zero
  odd_part {f = f} s (α ∷ es) x = f.add (even_part s es x) (f.mul (s.root α) (odd_part s es x))

module _ {A : Type 0} {f : Ops A} (k : Laws f) (s : Roots f) where
  -- a² + X·b² = Π (X + α)
  pub split_locator : (es : List A) (x : A) → from_parts f (even_part s es) (odd_part s es) x ≡ locator f es x
  split_locator [] x = ring k (x ∷ []) ((i ⊗ i) ⊕ (v 0 ⊗ (o ⊗ o))) i refl
  split_locator (α ∷ es) x =
      by_two k (f.add (f.mul (even_part s es x) (even_part s es x)) (f.mul x (f.mul (odd_part s es x) (odd_part s es x)))) (f.add x α) (s.squared α) (split_locator es x)
      (ring k (x ∷ α ∷ s.root α ∷ even_part s es x ∷ odd_part s es x ∷ locator f es x ∷ [])
      (((((v 2 ⊗ v 3) ⊕ (v 0 ⊗ v 4)) ⊗ ((v 2 ⊗ v 3) ⊕ (v 0 ⊗ v 4))) ⊕ (v 0 ⊗ ((v 3 ⊕ (v 2 ⊗ v 4)) ⊗ (v 3 ⊕ (v 2 ⊗ v 4))))) ⊕ ((v 0 ⊕ v 1) ⊗ v 5))
      ((((v 3 ⊗ v 3) ⊕ (v 0 ⊗ (v 4 ⊗ v 4))) ⊗ ((v 2 ⊗ v 2) ⊕ v 1)) ⊕ ((v 0 ⊕ v 1) ⊗ (((v 3 ⊗ v 3) ⊕ (v 0 ⊗ (v 4 ⊗ v 4))) ⊕ v 5))) refl)

  -- the new b² is the old product and (X + α) times the old b²
  pub odd_part_step : (α : A) (es : List A) (x : A) → f.mul (odd_part s (α ∷ es) x) (odd_part s (α ∷ es) x) ≡ f.add (locator f es x) (f.mul (f.add x α) (f.mul (odd_part s es x) (odd_part s es x)))
  odd_part_step α es x =
      by_two k (f.mul (odd_part s es x) (odd_part s es x)) f.one (s.squared α) (split_locator es x)
      (ring k (x ∷ α ∷ s.root α ∷ even_part s es x ∷ odd_part s es x ∷ locator f es x ∷ [])
      (((v 3 ⊕ (v 2 ⊗ v 4)) ⊗ (v 3 ⊕ (v 2 ⊗ v 4))) ⊕ (v 5 ⊕ ((v 0 ⊕ v 1) ⊗ (v 4 ⊗ v 4))))
      (((v 4 ⊗ v 4) ⊗ ((v 2 ⊗ v 2) ⊕ v 1)) ⊕ (i ⊗ (((v 3 ⊗ v 3) ⊕ (v 0 ⊗ (v 4 ⊗ v 4))) ⊕ v 5))) refl)

  -- off the points, b² is the product times the sum of the inverses
  pub odd_part_inverses : (es : List A) (x : A) → (In x es → ⊥) → f.mul (odd_part s es x) (odd_part s es x) ≡ f.mul (locator f es x) (inverse_sum f es x)
  odd_part_inverses [] x n = ring k [] (o ⊗ o) (i ⊗ o) refl
  odd_part_inverses (α ∷ es) x n =
      let w = f.add x α in
      let nz : w ≡ f.zero → ⊥ = λ z. n (inl (zero_sum k z)) in
      odd_part_step α es x
      ∙ by_two k (locator f es x) w (k.mul_inv w nz) (odd_part_inverses es x (λ m. n (inr m)))
      (ring k (w ∷ f.inv w ∷ locator f es x ∷ f.mul (odd_part s es x) (odd_part s es x) ∷ inverse_sum f es x ∷ [])
      ((v 2 ⊕ (v 0 ⊗ v 3)) ⊕ ((v 0 ⊗ v 2) ⊗ (v 1 ⊕ v 4)))
      ((v 2 ⊗ ((v 0 ⊗ v 1) ⊕ i)) ⊕ (v 0 ⊗ (v 3 ⊕ (v 2 ⊗ v 4)))) refl)

  -- at the points, b is not zero
  pub odd_part_nonzero : (es : List A) → Distinct es → (x : A) → In x es → odd_part s es x ≡ f.zero → ⊥
  odd_part_nonzero [] d x m e = m
  odd_part_nonzero (α ∷ es) d x m e =
      let sq : f.add (locator f es x) (f.mul (f.add x α) (f.mul (odd_part s es x) (odd_part s es x))) ≡ f.zero =
      sym (odd_part_step α es x) ∙ ap (f.mul (odd_part s (α ∷ es) x)) e ∙ mul_zero (ring_laws k) (odd_part s (α ∷ es) x) in
      elim m [
        | inl h ↦
            locator_nonzero k es x (λ n. d.0 (subst (λ y. In y es) h n))
            (sym (k.add_zero _)
            ∙ ap (f.add (locator f es x)) (sym (ap (λ w. f.mul w (f.mul (odd_part s es x) (odd_part s es x))) (sum_zero k h) ∙ zero_mul (ring_laws k) _))
            ∙ sq)
        | inr n ↦
            let old = odd_part_nonzero es d.1 x n in
            let nz : f.add x α ≡ f.zero → ⊥ = λ z. d.0 (subst (λ y. In y es) (zero_sum k z) n) in
            nonzero_mul k nz (nonzero_mul k old old)
            (sym (zero_add (ring_laws k) _) ∙ ap (λ w. f.add w (f.mul (f.add x α) (f.mul (odd_part s es x) (odd_part s es x)))) (sym (locator_zero k es x n)) ∙ sq)
      ]

  -- at a point other than zero, a is not zero
  pub even_part_nonzero : (es : List A) → Distinct es → (x : A) → In x es → (x ≡ f.zero → ⊥) → even_part s es x ≡ f.zero → ⊥
  even_part_nonzero es d x m n e =
      let b = odd_part_nonzero es d x m in
      nonzero_mul k n (nonzero_mul k b b)
      (by_two k f.one (even_part s es x) (split_locator es x ∙ locator_zero k es x m) e
      (ring k (x ∷ even_part s es x ∷ odd_part s es x ∷ [])
      ((v 0 ⊗ (v 2 ⊗ v 2)) ⊕ o)
      ((i ⊗ (((v 1 ⊗ v 1) ⊕ (v 0 ⊗ (v 2 ⊗ v 2))) ⊕ o)) ⊕ (v 1 ⊗ (v 1 ⊕ o))) refl))

  -- the bounds on the degrees of both
  pub split_polys : (es : List A) → Poly f (suc (length es / 2)) (even_part s es) × Poly f (suc (length es) / 2) (odd_part s es)
  split_polys [] = (poly_wider k _ (omega arith) (poly_const k f.one), poly_zero k _)
  split_polys (α ∷ es) =
      let h = split_polys es in
      let a = h.0 in
      let b = h.1 in
      let n = length es in (
        poly_add k (poly_scale k (s.root α) (poly_wider k (suc (suc n / 2)) (omega arith) a)) (poly_shift k b),
        poly_add k (poly_wider k (suc (suc n) / 2) (omega arith) a) (poly_scale k (s.root α) (poly_wider k (suc (suc n) / 2) (omega arith) b)),
      )
