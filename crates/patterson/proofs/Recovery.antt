-- Any solution of the key equation within the bounds locates the points.
use mathlib.Core.Path.{◌≡◌, refl, sym, ap, subst, ◌∙◌}
use mathlib.Core.List.{List, [], ◌∷◌}
use mathlib.Core.Logic.{inl, inr}
use Prim.Native.Nat.{ℕ, suc, ◌/◌}
use native.Mathlib.Omega.{arith}
use lib.ListN.{length}
use Rattle.algebra.specs.Field.{Ops, Laws, Roots}
use Rattle.algebra.proofs.Rings.{ring_laws, mul_zero}
use Rattle.algebra.proofs.Solve.{v, ◌⊕◌, ◌⊗◌}
use Rattle.patterson.specs.Points.{In, Distinct}
use Rattle.patterson.specs.Polys.{Poly, Vanishes}
use Rattle.patterson.specs.Locator.{locator, from_parts}
use Rattle.patterson.specs.Syndrome.{ErrorPoints, KeyEquation}
use Rattle.patterson.proofs.Points.{in_or_not}
use Rattle.patterson.proofs.Elements.{ring, by_two, mul_nonzero, nonzero_mul}
use Rattle.patterson.proofs.Weave.{parts_vanish}
use Rattle.patterson.proofs.Locators.{locator_zero}
use Rattle.patterson.proofs.Split.{even_part, odd_part, split_locator, odd_part_nonzero, split_polys}
use Rattle.patterson.proofs.KeyEquation.{key_equation, cross}

proportional_at : {A : Type 0} {f : Ops A} (k : Laws f) (x a b c d p : A) → f.mul a d ≡ f.mul c b → f.add (f.mul a a) (f.mul x (f.mul b b)) ≡ p
    → f.mul (f.mul b b) (f.add (f.mul c c) (f.mul x (f.mul d d))) ≡ f.mul (f.mul d d) p
proportional_at {f = f} k x a b c d p e h =
    by_two k (f.add (f.mul a d) (f.mul c b)) (f.mul d d) e h
    (ring k (x ∷ a ∷ b ∷ c ∷ d ∷ p ∷ [])
    (((v 2 ⊗ v 2) ⊗ ((v 3 ⊗ v 3) ⊕ (v 0 ⊗ (v 4 ⊗ v 4)))) ⊕ ((v 4 ⊗ v 4) ⊗ v 5))
    ((((v 1 ⊗ v 4) ⊕ (v 3 ⊗ v 2)) ⊗ ((v 1 ⊗ v 4) ⊕ (v 3 ⊗ v 2))) ⊕ ((v 4 ⊗ v 4) ⊗ (((v 1 ⊗ v 1) ⊕ (v 0 ⊗ (v 2 ⊗ v 2))) ⊕ v 5))) refl)

module _ {A : Type 0} {f : Ops A} (k : Laws f) (dec : (x y : A) → Dec (x ≡ y)) (r : Roots f)
    (t : ℕ) (s : A → A) (zs es : List A) (zs-differ : Distinct zs) (zs-count : length zs ≡ t) (e : ErrorPoints f t s zs es) where
  -- the points' own two parts are within the bounds
  pub own_even : Poly f (suc (t / 2)) (even_part r es)
  own_even = subst (λ n. Poly f (suc (n / 2)) (even_part r es)) e.count (split_polys k r es).0

  pub own_odd : Poly f (suc t / 2) (odd_part r es)
  own_odd = subst (λ n. Poly f (suc n / 2) (odd_part r es)) e.count (split_polys k r es).1

  module _ (a b : A → A) (pa : Poly f (suc (t / 2)) a) (pb : Poly f (suc t / 2) b) (solves : KeyEquation f s zs a b) where
    -- b0²·L = b²·Π (X + α)
    pub proportional : (x : A) → f.mul (f.mul (odd_part r es x) (odd_part r es x)) (from_parts f a b x) ≡ f.mul (f.mul (b x) (b x)) (locator f es x)
    proportional x =
        proportional_at k x (even_part r es x) (odd_part r es x) (a x) (b x) (locator f es x)
        (cross k dec t s zs zs-differ zs-count (even_part r es) (odd_part r es) a b own_even own_odd pa pb (key_equation k r s zs es e.syndrome e.apart) solves x)
        (split_locator k r es x)

    pub zero_at_points : (x : A) → In x es → from_parts f a b x ≡ f.zero
    zero_at_points x m =
        let n = odd_part_nonzero k r es e.differ x m in
        mul_nonzero k (nonzero_mul k n n) (proportional x ∙ ap (f.mul (f.mul (b x) (b x))) (locator_zero k es x m) ∙ mul_zero (ring_laws k) (f.mul (b x) (b x)))

    pub zero_only_at_points : (Vanishes f b → ⊥) → (x : A) → from_parts f a b x ≡ f.zero → In x es
    zero_only_at_points n x z =
        elim (in_or_not dec x es) [
          | yes m ↦ m
          | no h ↦ absurd (n (parts_vanish k dec (suc t) pa pb (omega arith) (omega arith) (x ∷ es) (h, e.differ) (omega (arith, e.count))
              (λ y m. elim m [ inl q ↦ subst (λ u. from_parts f a b u ≡ f.zero) (sym q) z | inr w ↦ zero_at_points y w ])))
        ]
