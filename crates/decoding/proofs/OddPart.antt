-- A polynomial even² + X·odd² whose zeros are single ones: odd is zero at none of them.
use Rattle.std.proofs.Common.{◌≡◌, ℕ, suc, ◌-◌, ◌/◌, ◌≤◌, List, [], ◌∷◌, length, sym, refl, ap, ◌∙◌, ap₂, arith}
use Rattle.algebra.specs.Field.{Ops, Laws}
use Rattle.algebra.specs.Poly.{eval}
use Rattle.algebra.proofs.Rings.{ring_laws, zero_add, mul_zero}
use Rattle.algebra.proofs.Solve.{v, o, i, ◌⊕◌, ◌⊗◌}
use Rattle.patterson.specs.Points.{In}
use Rattle.patterson.specs.Polys.{Poly, Vanishes, Splits}
use Rattle.patterson.specs.Columns.{quotient_at}
use Rattle.patterson.specs.Locator.{from_parts}
use Rattle.patterson.proofs.Elements.{ring, by_two, zero_sum, mul_nonzero, square_zero}
use Rattle.patterson.proofs.ZeroCount.{factor, length_quotient}
use Rattle.patterson.proofs.Polys.{poly_wider, poly_add, poly_shift, poly_times, vanishes}

-- φ is (X + α)·ψ
pub record Factor {A : Type 0} (f : Ops A) (n : ℕ) (α : A) (φ : A → A) : Type 0 where
  pub over : A → A
  pub over_poly : Poly f n over
  pub is : (x : A) → φ x ≡ f.mul (f.add x α) (over x)

module _ {A : Type 0} {f : Ops A} (k : Laws f) where
  factor_list : (n : ℕ) (α : A) (l : List A) → length l ≤ suc n → eval f l α ≡ f.zero → Factor f n α (eval f l)
  factor_list n α [] le e = record {
    over = λ x. f.zero;
    over_poly = record { coefs = []; short = omega arith; value = λ x. refl };
    is = λ x. sym (mul_zero (ring_laws k) (f.add x α));
  }
  factor_list n α (c ∷ l) le e = record {
    over = eval f (quotient_at f α l);
    over_poly = record { coefs = quotient_at f α l; short = omega (arith, length_quotient k α l); value = λ x. refl };
    is = λ x. factor k α c l x ∙ ap (λ (y : A). f.add y (f.mul (f.add x α) (eval f (quotient_at f α l) x))) e ∙ zero_add (ring_laws k) _;
  }

  factor_of : (n : ℕ) (α : A) (φ : A → A) → Poly f (suc n) φ → φ α ≡ f.zero → Factor f n α φ
  factor_of n α φ p e =
      let h = factor_list n α p.coefs p.short (sym (p.value α) ∙ e) in
      record { over = h.over; over_poly = h.over_poly; is = λ x. p.value x ∙ h.is x }

  module _ (dec : (x y : A) → Dec (x ≡ y)) (d : ℕ) (p a b : A → A) (zs : List A) (sp : Splits f d p zs) (is : (x : A) → p x ≡ from_parts f a b x)
      (pa : Poly f (suc (d / 2)) a) (pb : Poly f (suc d / 2) b) where
    pub odd_some : 1 ≤ d → (z : A) → In z zs → b z ≡ f.zero → ⊥
    odd_some pos z m e =
        let n = suc d / 2 - 1 in
        let up : suc n ≡ suc d / 2 = omega arith in
        let az : a z ≡ f.zero = square_zero k dec (by_two k f.one (f.mul z (b z)) (sym (is z) ∙ sp.zeros z m) e
        (ring k (a z ∷ z ∷ b z ∷ []) ((v 0 ⊗ v 0) ⊕ o) ((i ⊗ (((v 0 ⊗ v 0) ⊕ (v 1 ⊗ (v 2 ⊗ v 2))) ⊕ o)) ⊕ ((v 1 ⊗ v 2) ⊗ (v 2 ⊕ o))) refl)) in
        let fa = factor_of (d / 2) z a pa az in
        let fb = factor_of n z b (poly_wider k (suc n) (omega arith) pb) e in
        let h : A → A = λ x. f.add (f.mul (a x) (fa.over x)) (f.mul (b x) (f.mul x (fb.over x))) in
        let ph : Poly f d h =
        poly_add k (poly_wider k d (omega arith) (poly_times k (d / 2) pa fa.over_poly))
        (poly_wider k d (omega arith) (poly_times k (suc n) (poly_wider k (suc n) (omega arith) pb) (poly_shift k fb.over_poly))) in
        let whole : (x : A) → p x ≡ f.mul (f.add x z) (h x) = λ x.
        is x
        ∙ by_two k (a x) (f.mul x (b x)) (fa.is x) (fb.is x)
        (ring k (x ∷ z ∷ a x ∷ b x ∷ fa.over x ∷ fb.over x ∷ [])
        (((v 2 ⊗ v 2) ⊕ (v 0 ⊗ (v 3 ⊗ v 3))) ⊕ ((v 0 ⊕ v 1) ⊗ ((v 2 ⊗ v 4) ⊕ (v 3 ⊗ (v 0 ⊗ v 5)))))
        ((v 2 ⊗ (v 2 ⊕ ((v 0 ⊕ v 1) ⊗ v 4))) ⊕ ((v 0 ⊗ v 3) ⊗ (v 3 ⊕ ((v 0 ⊕ v 1) ⊗ v 5)))) refl) in
        let zero : (x : A) → In x zs → h x ≡ f.zero = λ x w. elim (dec x z) [
          | yes q ↦ by_two k (fa.over x) (f.mul x (fb.over x)) (ap a q ∙ az) (ap b q ∙ e)
              (ring k (x ∷ a x ∷ b x ∷ fa.over x ∷ fb.over x ∷ []) (((v 1 ⊗ v 3) ⊕ (v 2 ⊗ (v 0 ⊗ v 4))) ⊕ o) ((v 3 ⊗ (v 1 ⊕ o)) ⊕ ((v 0 ⊗ v 4) ⊗ (v 2 ⊕ o))) refl)
          | no q ↦ mul_nonzero k (λ s. q (zero_sum k s)) (sym (whole x) ∙ sp.zeros x w)
        ] in
        let none : Vanishes f h = vanishes k ph zs sp.differ (omega (arith, sp.count)) zero in
        sp.some (λ x. whole x ∙ ap (f.mul (f.add x z)) (none x) ∙ mul_zero (ring_laws k) (f.add x z))

  -- even by odd is a root of x
  pub root_by : (x e b w y : A) → f.add (f.mul e e) (f.mul x (f.mul b b)) ≡ f.zero → f.mul w b ≡ f.one → y ≡ f.mul e w → f.mul y y ≡ x
  root_by x e b w y p h is =
      ap₂ f.mul is is
      ∙ by_two k (f.mul w w) (f.mul x (f.add (f.mul w b) f.one)) p h
      (ring k (x ∷ e ∷ b ∷ w ∷ [])
      (((v 1 ⊗ v 3) ⊗ (v 1 ⊗ v 3)) ⊕ v 0)
      (((v 3 ⊗ v 3) ⊗ (((v 1 ⊗ v 1) ⊕ (v 0 ⊗ (v 2 ⊗ v 2))) ⊕ o)) ⊕ ((v 0 ⊗ ((v 3 ⊗ v 2) ⊕ i)) ⊗ ((v 3 ⊗ v 2) ⊕ i))) refl)

  -- and so even + root·odd is one of even² + x·odd²
  pub root_from : (x e b w u y : A) → u ≡ f.add (f.mul e e) (f.mul x (f.mul b b)) → f.mul w w ≡ x → y ≡ f.add (f.mul w b) e → f.mul y y ≡ u
  root_from x e b w u y p h is =
      ap₂ f.mul is is
      ∙ by_two k f.one (f.mul b b) (sym p) h
      (ring k (x ∷ e ∷ b ∷ w ∷ u ∷ [])
      ((((v 3 ⊗ v 2) ⊕ v 1) ⊗ ((v 3 ⊗ v 2) ⊕ v 1)) ⊕ v 4)
      ((i ⊗ (((v 1 ⊗ v 1) ⊕ (v 0 ⊗ (v 2 ⊗ v 2))) ⊕ v 4)) ⊕ ((v 2 ⊗ v 2) ⊗ ((v 3 ⊗ v 3) ⊕ v 0))) refl)
