-- The decoder is complete: where the syndrome is that of t points, the locator that it computes is zero at these and nowhere else.
use mathlib.Core.Path.{◌≡◌, refl, sym, ap, ◌∙◌}
use mathlib.Core.List.{List, [], ◌∷◌}
use Prim.Native.Nat.{ℕ, suc, ◌+◌, ◌-◌, ◌/◌, ◌≤◌, ◌<◌}
use native.Mathlib.Omega.{arith}
use Rattle.algebra.specs.Field.{Ops, Laws, Roots}
use Rattle.algebra.proofs.Solve.{v, o, ◌⊕◌, ◌⊗◌}
use Rattle.patterson.specs.Points.{In}
use Rattle.patterson.specs.Polys.{Poly, Vanishes, Splits}
use Rattle.patterson.specs.Locator.{from_parts}
use Rattle.patterson.specs.Syndrome.{ErrorPoints, shifted, KeyEquation}
use Rattle.patterson.specs.Euclid.{EuclidState}
use Rattle.patterson.specs.Decoder.{Prepared, RootOf}
use Rattle.patterson.proofs.Elements.{ring, by_two, mul_nonzero}
use Rattle.patterson.proofs.Polys.{poly_wider, poly_mul, vanishes}
use Rattle.patterson.proofs.Euclid.{factor_some}
use Rattle.patterson.proofs.Prepare.{sorted, s_exact, v_exact, g1_some, g12_zero, g12_splits}
use Rattle.patterson.proofs.Bounds.{few_s_zeros, few_v_zeros}
use Rattle.patterson.proofs.Recovery.{zero_at_points, zero_only_at_points}

module _ {A : Type 0} {f : Ops A} (k : Laws f) (dec : (x y : A) → Dec (x ≡ y)) (t : ℕ) (g s w : A → A)
    (zs : List A) (sp : Splits f t g zs) (n1 n2 : ℕ) (g1 g2 s1 v2 g12 : A → A) (h : Prepared f t g s w zs n1 n2 g1 g2 s1 v2 g12) where
  -- where s is the syndrome of t points, the bounds on the degrees of a and b are not negative
  pub rooms : (r : Roots f) (es : List A) → ErrorPoints f t s zs es → 2 ≤ t → (n1 < suc t / 2) × (n2 ≤ t / 2)
  rooms r es e two =
      let z = sorted k dec t g s w zs sp n1 n2 g1 g2 s1 v2 g12 h in
      let a = few_s_zeros k dec r t s zs es sp.differ sp.count e (omega arith) z.first z.first_distinct z.first_in z.first_zero in
      let b = few_v_zeros k dec r t s zs es sp.differ sp.count e two z.second z.second_distinct z.second_in (λ x m. sym (h.v_is x (z.second_in x m)) ∙ z.second_zero x m) in
      (omega (arith, a, z.first_count), omega (arith, b, z.second_count))

  module _ (y : A → A) (root_of : RootOf f s w zs g1 g2 s1 v2 y)
      (n : ℕ) (older a old_factor b : A → A) (st : EuclidState f (t - (n1 + n2)) g12 y n older a old_factor b) where
    abbrev pub found_even : A → A
    found_even x = f.mul (a x) (g2 x)

    abbrev pub found_odd : A → A
    found_odd x = f.mul (b x) (g1 x)

    -- at any stage, a·g2 and b·g1 solve the key equation
    pub stage_solves : KeyEquation f s zs found_even found_odd
    stage_solves z m =
        elim (dec (s z) f.zero) [
          | yes e ↦
              by_two k (f.mul (found_even z) (found_even z)) (f.mul (f.mul (b z) (found_odd z)) (shifted f s z)) e (h.s_divisor.zero_here z m e)
              (ring k (a z ∷ g2 z ∷ s z ∷ b z ∷ g1 z ∷ shifted f s z ∷ [])
              ((((v 0 ⊗ v 1) ⊗ (v 0 ⊗ v 1)) ⊗ v 2) ⊕ (((v 3 ⊗ v 4) ⊗ (v 3 ⊗ v 4)) ⊗ v 5))
              ((((v 0 ⊗ v 1) ⊗ (v 0 ⊗ v 1)) ⊗ (v 2 ⊕ o)) ⊕ (((v 3 ⊗ (v 3 ⊗ v 4)) ⊗ v 5) ⊗ (v 4 ⊕ o))) refl)
          | no p ↦ elim (dec (w z) f.zero) [
            | yes e ↦
                by_two k (f.mul (f.mul (a z) (found_even z)) (s z)) (f.mul (found_odd z) (found_odd z)) (h.v_divisor.zero_here z m e) (sym (h.v_is z m) ∙ e)
                (ring k (a z ∷ g2 z ∷ s z ∷ b z ∷ g1 z ∷ shifted f s z ∷ [])
                ((((v 0 ⊗ v 1) ⊗ (v 0 ⊗ v 1)) ⊗ v 2) ⊕ (((v 3 ⊗ v 4) ⊗ (v 3 ⊗ v 4)) ⊗ v 5))
                ((((v 0 ⊗ (v 0 ⊗ v 1)) ⊗ v 2) ⊗ (v 1 ⊕ o)) ⊕ (((v 3 ⊗ v 4) ⊗ (v 3 ⊗ v 4)) ⊗ (v 5 ⊕ o))) refl)
            | no q ↦
                let zero12 = g12_zero k dec t g s w zs sp n1 n2 g1 g2 s1 v2 g12 h z m p q in
                let es = s_exact k dec t g s w zs sp n1 n2 g1 g2 s1 v2 g12 h z in
                let ev = v_exact k dec t g s w zs sp n1 n2 g1 g2 s1 v2 g12 h z in
                let quotients : f.mul (f.mul (found_even z) (found_even z)) (f.mul (s1 z) (g1 z)) ≡ f.mul (f.mul (found_odd z) (found_odd z)) (f.mul (v2 z) (g2 z)) =
                by_two k (f.mul (f.add (f.mul (b z) (y z)) (a z)) (f.mul (f.mul (g2 z) (g2 z)) (f.mul (s1 z) (g1 z))))
                (f.mul (f.mul (b z) (b z)) (f.mul (g1 z) (g2 z)))
                (st.gives z zero12) (root_of z m p q)
                (ring k (a z ∷ g2 z ∷ s1 z ∷ b z ∷ g1 z ∷ v2 z ∷ y z ∷ [])
                ((((v 0 ⊗ v 1) ⊗ (v 0 ⊗ v 1)) ⊗ (v 2 ⊗ v 4)) ⊕ (((v 3 ⊗ v 4) ⊗ (v 3 ⊗ v 4)) ⊗ (v 5 ⊗ v 1)))
                (((((v 3 ⊗ v 6) ⊕ v 0) ⊗ ((v 1 ⊗ v 1) ⊗ (v 2 ⊗ v 4))) ⊗ ((v 3 ⊗ v 6) ⊕ v 0))
                ⊕ (((v 3 ⊗ v 3) ⊗ (v 4 ⊗ v 1)) ⊗ (((v 6 ⊗ v 6) ⊗ (v 1 ⊗ v 2)) ⊕ (v 4 ⊗ v 5)))) refl) in
                ap (f.mul (f.mul (found_even z) (found_even z))) es ∙ quotients ∙ ap (f.mul (f.mul (found_odd z) (found_odd z))) (sym ev ∙ h.v_is z m)
          ]
        ]

    -- The stop: a has degree at most t/2 - n2, and the remainder before it has not
    module _ (a_poly : Poly f (suc (t / 2 - n2)) a) (first-time : t / 2 < n + n2) where
      found_even_poly : n2 ≤ t / 2 → Poly f (suc (t / 2)) found_even
      found_even_poly l = poly_wider k (suc (t / 2)) (omega arith) (poly_mul k a_poly h.v_divisor.poly)

      found_odd_poly : n1 < suc t / 2 → Poly f (suc t / 2) found_odd
      found_odd_poly l = poly_wider k (suc t / 2) (omega (arith, st.room)) (poly_mul k st.factor_poly h.s_divisor.poly)

      found_odd_some : n2 ≤ t / 2 → Vanishes f found_odd → ⊥
      found_odd_some l none =
          let z = sorted k dec t g s w zs sp n1 n2 g1 g2 s1 v2 g12 h in
          let b-none : Vanishes f b =
          vanishes k st.factor_poly z.third z.third_distinct (omega (arith, st.room, z.third_count))
          (λ x m. mul_nonzero k (g1_some k dec t g s w zs sp n1 n2 g1 g2 s1 v2 g12 h x (z.third_in x m) (z.third_s x m)) (k.mul_comm (g1 x) (b x) ∙ none x)) in
          factor_some k (t - (n1 + n2)) g12 y z.third (g12_splits k dec t g s w zs sp n1 n2 g1 g2 s1 v2 g12 h)
          n older a old_factor b st b-none

      -- the candidate is zero at the points of the errors and nowhere else
      pub complete : (r : Roots f) (es : List A) → ErrorPoints f t s zs es → 2 ≤ t
          → (x : A) → (from_parts f found_even found_odd x ≡ f.zero → In x es) × (In x es → from_parts f found_even found_odd x ≡ f.zero)
      complete r es e two x =
          let room = rooms r es e two in
          let pa = found_even_poly room.1 in
          let pb = found_odd_poly room.0 in (
            zero_only_at_points k dec r t s zs es sp.differ sp.count e found_even found_odd pa pb stage_solves (found_odd_some room.1) x,
            zero_at_points k dec r t s zs es sp.differ sp.count e found_even found_odd pa pb stage_solves x,
          )
