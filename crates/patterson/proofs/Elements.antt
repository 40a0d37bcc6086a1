-- Elements of a binary field: no divisors of zero, squares are injective, and equations by combination of others.
use mathlib.Core.Path.{◌≡◌, refl, sym, ap, ap₂, ◌∙◌}
use mathlib.Core.List.{List, [], ◌∷◌}
use Rattle.algebra.specs.Field.{Ops, Laws}
use Rattle.algebra.specs.Ring.{ring_of}
use Rattle.algebra.proofs.Rings.{ring_laws, zero_add, mul_zero, zero_mul}
use Rattle.algebra.proofs.Solve.{Ex, v, ◌⊕◌, ◌⊗◌, normal, den, solve}

module _ {A : Type 0} {f : Ops A} (k : Laws f) where
  -- an identity of the ring, decided
  pub ring : (ρ : List A) (a b : Ex) → normal a ≡ normal b → den (ring_of f) ρ a ≡ den (ring_of f) ρ b
  ring ρ a b e = solve (ring_laws k) ρ a b e

  pub sum_zero : {x y : A} → x ≡ y → f.add x y ≡ f.zero
  sum_zero {x} {y} e = ap (λ w. f.add w y) e ∙ k.add_self y

  pub zero_sum : {x y : A} → f.add x y ≡ f.zero → x ≡ y
  zero_sum {x} {y} e =
      ring (x ∷ y ∷ []) (v 0) ((v 0 ⊕ v 1) ⊕ v 1) refl ∙ ap (λ w. f.add w y) e ∙ zero_add (ring_laws k) y

  -- an equation that is a multiple of another one
  pub by_one : (c : A) {l r : A} {u w : A} → l ≡ r → f.add u w ≡ f.mul c (f.add l r) → u ≡ w
  by_one c h e = zero_sum (e ∙ ap (f.mul c) (sum_zero h) ∙ mul_zero (ring_laws k) c)

  -- .. and a sum of multiples of two others
  pub by_two : (c : A) {l r : A} (c' : A) {l' r' : A} {u w : A} → l ≡ r → l' ≡ r' → f.add u w ≡ f.add (f.mul c (f.add l r)) (f.mul c' (f.add l' r')) → u ≡ w
  by_two c c' h h' e =
      zero_sum (e ∙ ap₂ f.add (ap (f.mul c) (sum_zero h) ∙ mul_zero (ring_laws k) c) (ap (f.mul c') (sum_zero h') ∙ mul_zero (ring_laws k) c') ∙ k.add_self f.zero)

  pub mul_nonzero : {x y : A} → (x ≡ f.zero → ⊥) → f.mul x y ≡ f.zero → y ≡ f.zero
  mul_nonzero {x} {y} n e =
      sym (k.mul_comm f.one y ∙ k.mul_one y)
      ∙ ap (λ w. f.mul w y) (sym (k.mul_inv x n))
      ∙ ring (x ∷ y ∷ f.inv x ∷ []) ((v 0 ⊗ v 2) ⊗ v 1) (v 2 ⊗ (v 0 ⊗ v 1)) refl
      ∙ ap (f.mul (f.inv x)) e
      ∙ mul_zero (ring_laws k) (f.inv x)

  pub nonzero_mul : {x y : A} → (x ≡ f.zero → ⊥) → (y ≡ f.zero → ⊥) → f.mul x y ≡ f.zero → ⊥
  nonzero_mul n m e = m (mul_nonzero n e)

  pub cancel : {c x y : A} → (c ≡ f.zero → ⊥) → f.mul c x ≡ f.mul c y → x ≡ y
  cancel {c} {x} {y} n e = zero_sum (mul_nonzero n (k.mul_add c x y ∙ sum_zero e))

  -- y with x·y = 1 is the inverse
  pub inverse_unique : {x y : A} → f.mul x y ≡ f.one → y ≡ f.inv x
  inverse_unique {x} {y} e =
      let n : x ≡ f.zero → ⊥ = λ z. k.one_zero (sym e ∙ ap (λ w. f.mul w y) z ∙ zero_mul (ring_laws k) y) in
      cancel n (e ∙ sym (k.mul_inv x n))

  module _ (dec : (x y : A) → Dec (x ≡ y)) where
    pub square_zero : {x : A} → f.mul x x ≡ f.zero → x ≡ f.zero
    square_zero {x} e = elim (dec x f.zero) [ yes h ↦ h | no h ↦ mul_nonzero h e ]

    pub square_injective : {x y : A} → f.mul x x ≡ f.mul y y → x ≡ y
    square_injective {x} {y} e =
        zero_sum (square_zero (ring (x ∷ y ∷ []) ((v 0 ⊕ v 1) ⊗ (v 0 ⊕ v 1)) ((v 0 ⊗ v 0) ⊕ (v 1 ⊗ v 1)) refl ∙ sum_zero e))
