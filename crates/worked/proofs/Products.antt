-- (X - a)(X - b) by its coefficients, and that a square has one root, over every field of characteristic 2.
use Rattle.std.proofs.Common.{◌≡◌, ℕ, zero, suc, [], ◌∷◌, sym, refl, ap, ◌∙◌, ap₂, inl, inr}
use mathlib.Core.Path.{fun_ext}
use Rattle.std.proofs.lemmas.Bool.{cases_eq}
use Rattle.algebra.specs.Field.{Ops, Laws, Places}
use Rattle.algebra.specs.Series.{Series}
use Rattle.algebra.proofs.Rings.{ring_laws, zero_add, zero_mul}
use Rattle.algebra.proofs.Solve.{v, o, i, ◌⊕◌, ◌⊗◌, solve}
use Rattle.polys.specs.Coefs.{poly, coefs}
use Rattle.goppa.specs.Zeros.{linear, from_zeros}
use Rattle.goppa.proofs.Linear.{linear_zero, linear_suc}

module _ {A : Type 0} {f : Ops A} (k : Laws f) where
  -- X - b times one
  first : (b : A) → (poly f).mul (linear f b) (poly f).one 0 ≡ b
  unfolding poly
  first b = linear_zero k b (poly f).one ∙ k.mul_one b

  second : (b : A) → (poly f).mul (linear f b) (poly f).one 1 ≡ f.one
  unfolding poly
  second b = linear_suc k b (poly f).one 0 ∙ solve (ring_laws k) (b ∷ []) (i ⊕ (v 0 ⊗ o)) i refl

  later : (b : A) (n : ℕ) → (poly f).mul (linear f b) (poly f).one (suc (suc n)) ≡ f.zero
  unfolding poly
  later b n = linear_suc k b (poly f).one (suc n) ∙ solve (ring_laws k) (b ∷ []) (o ⊕ (v 0 ⊗ o)) o refl

  module _ {m : ℕ} (pl : Places A m) where
    -- X² + (a + b)X + ab
    pub two_zeros : (a b : A) (c d e : ℕ) → pl.at 0 ≡ f.zero → pl.at c ≡ f.mul a b → pl.at d ≡ f.add a b → pl.at e ≡ f.one
        → from_zeros f (a ∷ b ∷ []) ≡ coefs pl (c ∷ d ∷ e ∷ [])
    unfolding from_zeros coefs
    two_zeros a b c d e z hc hd he = fun_ext at where
      p : Series A
      p = (poly f).mul (linear f b) (poly f).one

      at : (n : ℕ) → from_zeros f (a ∷ b ∷ []) n ≡ coefs pl (c ∷ d ∷ e ∷ []) n
      at zero = linear_zero k a p ∙ ap (f.mul a) (first b) ∙ sym hc
      at (suc zero) = linear_suc k a p 0 ∙ ap₂ (λ (x y : A). f.add x (f.mul a y)) (first b) (second b) ∙ solve (ring_laws k) (a ∷ b ∷ []) (v 1 ⊕ (v 0 ⊗ i)) (v 0 ⊕ v 1) refl ∙ sym hd
      at (suc (suc zero)) = linear_suc k a p 1 ∙ ap₂ (λ (x y : A). f.add x (f.mul a y)) (second b) (later b 0) ∙ solve (ring_laws k) (a ∷ []) (i ⊕ (v 0 ⊗ o)) i refl ∙ sym he
      at (suc (suc (suc n))) = linear_suc k a p (suc (suc n)) ∙ ap₂ (λ (x y : A). f.add x (f.mul a y)) (later b n) (later b (suc n)) ∙ solve (ring_laws k) (a ∷ []) (o ⊕ (v 0 ⊗ o)) o refl ∙ sym z

    zero_square : (w : A) → f.mul w w ≡ f.zero → w ≡ f.zero
    zero_square w e = elim (cases_eq (pl.num w) (pl.num f.zero)) [
      | inl s ↦ sym (pl.at_num w) ∙ ap pl.at s ∙ pl.at_num f.zero
      | inr d ↦
          sym (k.mul_one w) ∙ ap (f.mul w) (sym (k.mul_inv w (λ h. d (ap pl.num h)))) ∙ sym (k.mul_assoc w w (f.inv w))
          ∙ ap (λ (x : A). f.mul x (f.inv w)) e ∙ zero_mul (ring_laws k) (f.inv w)
    ]

    pub one_root : (x y : A) → f.mul x x ≡ f.mul y y → x ≡ y
    one_root x y e =
        let s = solve (ring_laws k) (x ∷ y ∷ []) ((v 0 ⊕ v 1) ⊗ (v 0 ⊕ v 1)) ((v 0 ⊗ v 0) ⊕ (v 1 ⊗ v 1)) refl in
        let d = zero_square (f.add x y) (s ∙ ap (λ (w : A). f.add w (f.mul y y)) e ∙ k.add_self (f.mul y y)) in
        solve (ring_laws k) (x ∷ y ∷ []) (v 0) ((v 0 ⊕ v 1) ⊕ v 1) refl ∙ ap (λ (w : A). f.add w y) d ∙ zero_add (ring_laws k) y
