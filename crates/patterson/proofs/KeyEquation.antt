-- The key equation: the two parts of the points' locator solve it, and two solutions are proportional.
use mathlib.Core.Path.{◌≡◌, refl, sym, ap, ◌∙◌}
use mathlib.Core.List.{List, [], ◌∷◌}
use Prim.Native.Nat.{ℕ, suc, ◌/◌}
use native.Mathlib.Omega.{arith}
use lib.ListN.{length}
use Rattle.algebra.specs.Field.{Ops, Laws, Roots}
use Rattle.algebra.proofs.Solve.{v, o, i, ◌⊕◌, ◌⊗◌}
use Rattle.patterson.specs.Points.{In, Distinct}
use Rattle.patterson.specs.Polys.{Poly}
use Rattle.patterson.specs.Locator.{locator}
use Rattle.patterson.specs.Syndrome.{Syndrome, KeyEquation}
use Rattle.patterson.proofs.Elements.{ring, sum_zero, zero_sum, by_two, cancel, square_zero, square_injective}
use Rattle.patterson.proofs.Polys.{poly_add, poly_times, poly_wider, vanishes}
use Rattle.patterson.proofs.Split.{even_part, odd_part, split_locator, odd_part_inverses}

module _ {A : Type 0} {f : Ops A} (k : Laws f) where
  -- the two parts of the locator of the points solve the equation of their syndrome
  pub key_equation : (r : Roots f) (s : A → A) (zs es : List A) → Syndrome f s zs es → ((β : A) → In β zs → In β es → ⊥) → KeyEquation f s zs (even_part r es) (odd_part r es)
  key_equation r s zs es y apart β m =
      by_two k (s β) f.one (split_locator k r es β) (odd_part_inverses k r es β (apart β m) ∙ ap (f.mul (locator f es β)) (sym (y β m)))
      (ring k (β ∷ s β ∷ even_part r es β ∷ odd_part r es β ∷ locator f es β ∷ [])
      (((v 2 ⊗ v 2) ⊗ v 1) ⊕ ((v 3 ⊗ v 3) ⊗ (i ⊕ (v 0 ⊗ v 1))))
      ((v 1 ⊗ (((v 2 ⊗ v 2) ⊕ (v 0 ⊗ (v 3 ⊗ v 3))) ⊕ v 4)) ⊕ (i ⊗ ((v 3 ⊗ v 3) ⊕ (v 4 ⊗ v 1)))) refl)

  module _ (dec : (x y : A) → Dec (x ≡ y)) where
    -- where s is zero, so is b
    pub odd_part_at_zero : (x s a b : A) → f.mul (f.mul a a) s ≡ f.mul (f.mul b b) (f.add f.one (f.mul x s)) → s ≡ f.zero → b ≡ f.zero
    odd_part_at_zero x s a b e z =
        square_zero k dec
        (by_two k f.one (f.add (f.mul a a) (f.mul x (f.mul b b))) e z
        (ring k (x ∷ s ∷ a ∷ b ∷ [])
        ((v 3 ⊗ v 3) ⊕ o)
        ((i ⊗ (((v 2 ⊗ v 2) ⊗ v 1) ⊕ ((v 3 ⊗ v 3) ⊗ (i ⊕ (v 0 ⊗ v 1))))) ⊕ (((v 2 ⊗ v 2) ⊕ (v 0 ⊗ (v 3 ⊗ v 3))) ⊗ (v 1 ⊕ o))) refl))

    -- where v is zero, so is a
    pub even_part_at_zero : (x s a b : A) → f.mul (f.mul a a) s ≡ f.mul (f.mul b b) (f.add f.one (f.mul x s)) → f.add f.one (f.mul x s) ≡ f.zero → a ≡ f.zero
    even_part_at_zero x s a b e z =
        square_zero k dec
        (by_two k x (f.add (f.mul a a) (f.mul x (f.mul b b))) e z
        (ring k (x ∷ s ∷ a ∷ b ∷ [])
        ((v 2 ⊗ v 2) ⊕ o)
        ((v 0 ⊗ (((v 2 ⊗ v 2) ⊗ v 1) ⊕ ((v 3 ⊗ v 3) ⊗ (i ⊕ (v 0 ⊗ v 1))))) ⊕ (((v 2 ⊗ v 2) ⊕ (v 0 ⊗ (v 3 ⊗ v 3))) ⊗ ((i ⊕ (v 0 ⊗ v 1)) ⊕ o))) refl))

    -- two solutions at one point
    pub cross_at : (x s a b c d : A) → f.mul (f.mul a a) s ≡ f.mul (f.mul b b) (f.add f.one (f.mul x s)) → f.mul (f.mul c c) s ≡ f.mul (f.mul d d) (f.add f.one (f.mul x s)) → f.mul a d ≡ f.mul c b
    cross_at x s a b c d e g =
        elim (dec s f.zero) [
          | yes z ↦
              by_two k a c (odd_part_at_zero x s c d g z) (odd_part_at_zero x s a b e z)
              (ring k (a ∷ b ∷ c ∷ d ∷ []) ((v 0 ⊗ v 3) ⊕ (v 2 ⊗ v 1)) ((v 0 ⊗ (v 3 ⊕ o)) ⊕ (v 2 ⊗ (v 1 ⊕ o))) refl)
          | no n ↦
              square_injective k dec
              (cancel k n
              (by_two k (f.mul d d) (f.mul b b) e g
              (ring k (x ∷ s ∷ a ∷ b ∷ c ∷ d ∷ [])
              ((v 1 ⊗ ((v 2 ⊗ v 5) ⊗ (v 2 ⊗ v 5))) ⊕ (v 1 ⊗ ((v 4 ⊗ v 3) ⊗ (v 4 ⊗ v 3))))
              (((v 5 ⊗ v 5) ⊗ (((v 2 ⊗ v 2) ⊗ v 1) ⊕ ((v 3 ⊗ v 3) ⊗ (i ⊕ (v 0 ⊗ v 1)))))
              ⊕ ((v 3 ⊗ v 3) ⊗ (((v 4 ⊗ v 4) ⊗ v 1) ⊕ ((v 5 ⊗ v 5) ⊗ (i ⊕ (v 0 ⊗ v 1)))))) refl)))
        ]

    -- two solutions within the bounds, at every point
    pub cross : (t : ℕ) (s : A → A) (zs : List A) → Distinct zs → length zs ≡ t → (a b c d : A → A)
        → Poly f (suc (t / 2)) a → Poly f (suc t / 2) b → Poly f (suc (t / 2)) c → Poly f (suc t / 2) d
        → KeyEquation f s zs a b → KeyEquation f s zs c d → (x : A) → f.mul (a x) (d x) ≡ f.mul (c x) (b x)
    cross t s zs u l a b c d pa pb pc pd e g x =
        zero_sum k
        (vanishes k
        (poly_wider k t (omega arith) (poly_add k (poly_times k (suc t / 2) pa pd) (poly_times k (suc t / 2) pc pb)))
        zs u (omega arith)
        (λ β m. sum_zero k (cross_at β (s β) (a β) (b β) (c β) (d β) (e β m) (g β m))) x)
