-- Euclid's rule: where it starts, that a step keeps what is known, and that the factor is never zero.
use mathlib.Core.Path.{◌≡◌, refl, sym, ap, ap₂, ◌∙◌}
use mathlib.Core.List.{List, [], ◌∷◌}
use Prim.Native.Nat.{ℕ, suc, ◌-◌, ◌≤◌}
use native.Mathlib.Omega.{arith}
use Rattle.algebra.specs.Field.{Ops, Laws}
use Rattle.algebra.proofs.Rings.{ring_laws, mul_zero, zero_mul}
use Rattle.algebra.proofs.Solve.{v, o, i, ◌⊕◌, ◌⊗◌}
use Rattle.patterson.specs.Polys.{Poly, Vanishes, Splits}
use Rattle.patterson.specs.Euclid.{EuclidState, CommonDivisor}
use Rattle.patterson.proofs.Elements.{ring, by_one, by_two}
use Rattle.patterson.proofs.Polys.{poly_zero, poly_const, poly_wider, poly_same, poly_add, poly_mul, poly_times, vanishes}

module _ {A : Type 0} {f : Ops A} (k : Laws f) where
  pub start : (d : ℕ) (p q : A → A) → Poly f (suc d) p → Poly f d q → EuclidState f d p q d p q (λ x. f.zero) (λ x. f.one)
  start d p q pp pq = record {
    room = omega arith;
    whole = λ x. ring k (p x ∷ q x ∷ []) ((i ⊗ v 0) ⊕ (o ⊗ v 1)) (v 0) refl;
    gives = λ x e. ring k (q x ∷ []) (i ⊗ v 0) (v 0) refl;
    gave = λ x e. zero_mul (ring_laws k) (q x) ∙ sym e;
    common = λ x e h. h;
    older_poly = pp;
    newer_poly = pq;
    old_factor_poly = poly_zero k (suc (d - d));
    factor_poly = poly_wider k (suc (d - d)) (omega arith) (poly_const k f.one);
  }

  -- One division, older = c·newer + rest, where the newer has degree m
  pub step : (d : ℕ) (p q : A → A) (n : ℕ) (older newer old_factor factor : A → A) → EuclidState f d p q n older newer old_factor factor
      → (m : ℕ) (c rest next : A → A) → m ≤ n → Poly f (suc (n - m)) c → Poly f (suc m) newer → Poly f m rest
      → ((x : A) → older x ≡ f.add (f.mul (c x) (newer x)) (rest x))
      → ((x : A) → next x ≡ f.add (old_factor x) (f.mul (c x) (factor x)))
      → EuclidState f d p q m newer rest factor next
  step d p q n r' r b' b st m c rest next l pc pr ps division update = record {
    room = omega (arith, st.room);
    whole = λ x.
        by_two k f.one f.one (st.whole x) (ap₂ (λ u w. f.add (f.mul u (r x)) (f.mul (b x) w)) (update x) (sym (by_one k f.one (division x) (ring k (c x ∷ r x ∷ rest x ∷ r' x ∷ []) ((v 3 ⊕ (v 0 ⊗ v 1)) ⊕ v 2) (i ⊗ (v 3 ⊕ ((v 0 ⊗ v 1) ⊕ v 2))) refl))))
        (ring k (next x ∷ r x ∷ b x ∷ rest x ∷ p x ∷ r' x ∷ b' x ∷ c x ∷ [])
        (((v 0 ⊗ v 1) ⊕ (v 2 ⊗ v 3)) ⊕ v 4)
        ((i ⊗ (((v 2 ⊗ v 5) ⊕ (v 6 ⊗ v 1)) ⊕ v 4)) ⊕ (i ⊗ (((v 0 ⊗ v 1) ⊕ (v 2 ⊗ v 3)) ⊕ (((v 6 ⊕ (v 7 ⊗ v 2)) ⊗ v 1) ⊕ (v 2 ⊗ (v 5 ⊕ (v 7 ⊗ v 1))))))) refl);
    gives = λ x e.
        ap (λ u. f.mul u (q x)) (update x)
        ∙ by_two k f.one (c x) (st.gave x e ∙ division x) (st.gives x e)
        (ring k (b' x ∷ c x ∷ b x ∷ q x ∷ rest x ∷ r x ∷ [])
        (((v 0 ⊕ (v 1 ⊗ v 2)) ⊗ v 3) ⊕ v 4)
        ((i ⊗ ((v 0 ⊗ v 3) ⊕ ((v 1 ⊗ v 5) ⊕ v 4))) ⊕ (v 1 ⊗ ((v 2 ⊗ v 3) ⊕ v 5))) refl);
    gave = st.gives;
    common = λ x e h. st.common x (division x ∙ ap₂ (λ u w. f.add (f.mul (c x) u) w) e h ∙ ring k (c x ∷ []) ((v 0 ⊗ o) ⊕ o) o refl) e;
    older_poly = pr;
    newer_poly = ps;
    old_factor_poly = poly_wider k (suc (d - m)) (omega (arith, st.room)) st.factor_poly;
    factor_poly = poly_same k next update
        (poly_add k (poly_wider k (suc (d - m)) (omega (arith, st.room)) st.old_factor_poly)
        (poly_wider k (suc (d - m)) (omega (arith, st.room)) (poly_mul k pc st.factor_poly)));
  }

  module _ (d : ℕ) (p q : A → A) (zs : List A) (sp : Splits f d p zs)
      (n : ℕ) (older newer old_factor factor : A → A) (st : EuclidState f d p q n older newer old_factor factor) where
    -- else p would be a product of too low a degree for its zeros
    pub factor_some : Vanishes f factor → ⊥
    factor_some none =
        let off : (x : A) → f.mul (old_factor x) (newer x) ≡ p x =
        λ x. by_two k f.one (older x) (st.whole x) (none x)
        (ring k (factor x ∷ older x ∷ old_factor x ∷ newer x ∷ p x ∷ [])
        ((v 2 ⊗ v 3) ⊕ v 4)
        ((i ⊗ (((v 0 ⊗ v 1) ⊕ (v 2 ⊗ v 3)) ⊕ v 4)) ⊕ (v 1 ⊗ (v 0 ⊕ o))) refl) in
        let flat : Vanishes f (λ x. f.mul (old_factor x) (newer x)) =
        vanishes k (poly_wider k d (omega (arith, st.room)) (poly_times k n st.old_factor_poly st.newer_poly)) zs sp.differ (omega (arith, sp.count))
        (λ z m. off z ∙ sp.zeros z m) in
        sp.some (λ x. sym (off x) ∙ flat x)

    -- at the end, when the newer remainder is zero, the older one is a divisor of p, and zero where both p and q are
    pub divisor : Vanishes f newer → CommonDivisor f d p q zs n older
    divisor end = record {
      room = st.room;
      poly = st.older_poly;
      other = factor;
      other_poly = st.factor_poly;
      parts = λ x.
          by_two k f.one (old_factor x) (st.whole x) (end x)
          (ring k (factor x ∷ older x ∷ old_factor x ∷ newer x ∷ p x ∷ [])
          ((v 0 ⊗ v 1) ⊕ v 4)
          ((i ⊗ (((v 0 ⊗ v 1) ⊕ (v 2 ⊗ v 3)) ⊕ v 4)) ⊕ (v 2 ⊗ (v 3 ⊕ o))) refl);
      zero_there = λ z m e. st.common z e (end z);
      zero_here = λ z m e. sym (st.gave z (sp.zeros z m)) ∙ ap (f.mul (old_factor z)) e ∙ mul_zero (ring_laws k) (old_factor z);
    }
