-- A polynomial with as many different zeros as coefficients is zero.
use mathlib.Core.Path.{◌≡◌, refl, sym, ap, ◌∙◌}
use mathlib.Core.List.{List, [], ◌∷◌}
use mathlib.Core.Logic.{inl, inr}
use Prim.Native.Nat.{ℕ, zero, suc, ◌≤◌}
use native.Mathlib.Omega.{arith}
use lib.ListN.{length}
use Rattle.algebra.specs.Field.{Ops, Laws}
use Rattle.algebra.specs.Ring.{ring_of}
use Rattle.algebra.specs.Poly.{sum, eval}
use Rattle.algebra.specs.Series.{ser}
use Rattle.algebra.proofs.Eval.{eval_none}
use Rattle.algebra.proofs.Lists.{ser_sum}
use Rattle.algebra.proofs.Rings.{ring_laws, zero_add}
use Rattle.algebra.proofs.Solve.{v, o, ◌⊕◌, ◌⊗◌}
use Rattle.patterson.specs.Points.{In, Distinct}
use Rattle.patterson.proofs.Points.{Each}
use Rattle.patterson.specs.Columns.{quotient_at}
use Rattle.patterson.proofs.Elements.{ring, zero_sum, mul_nonzero}

-- every coefficient is zero
abbrev pub AllZero : {A : Type 0} → Ops A → List A → Type 0
AllZero f p = Each (λ c. c ≡ f.zero) p

module _ {A : Type 0} {f : Ops A} (k : Laws f) where
  pub length_quotient : (α : A) (p : List A) → length (quotient_at f α p) ≡ length p
  length_quotient α [] = refl
  length_quotient α (c ∷ p) = ap suc (length_quotient α p)

  -- division by X + α leaves the value at α
  pub factor : (α c : A) (p : List A) (x : A) → eval f (c ∷ p) x ≡ f.add (eval f (c ∷ p) α) (f.mul (f.add x α) (eval f (quotient_at f α p) x))
  factor α c [] x = ring k (α ∷ c ∷ x ∷ []) (v 1 ⊕ (v 2 ⊗ o)) ((v 1 ⊕ (v 0 ⊗ o)) ⊕ ((v 2 ⊕ v 0) ⊗ o)) refl
  factor α c (d ∷ p) x =
      ap (λ w. f.add c (f.mul x w)) (factor α d p x)
      ∙ ring k (α ∷ c ∷ x ∷ eval f (d ∷ p) α ∷ eval f (quotient_at f α p) x ∷ [])
      (v 1 ⊕ (v 2 ⊗ (v 3 ⊕ ((v 2 ⊕ v 0) ⊗ v 4))))
      ((v 1 ⊕ (v 0 ⊗ v 3)) ⊕ ((v 2 ⊕ v 0) ⊗ (v 3 ⊕ (v 2 ⊗ v 4)))) refl

  coefficient : (l : List A) → AllZero f l → (j : ℕ) → ser (ring_of f) l j ≡ f.zero
  coefficient [] n j = refl
  coefficient (c ∷ l) n zero = n.0
  coefficient (c ∷ l) n (suc j) = coefficient l n.1 j

  pub eval_zeros : (p : List A) → AllZero f p → (x : A) → eval f p x ≡ f.zero
  eval_zeros p n x = eval_none k p x (coefficient p n)

  none_more : (α c : A) (p : List A) → AllZero f p → eval f (c ∷ p) α ≡ f.zero → AllZero f (c ∷ p)
  none_more α c p n e =
      (ring k (c ∷ α ∷ []) (v 0) (v 0 ⊕ (v 1 ⊗ o)) refl ∙ ap (λ w. f.add c (f.mul α w)) (sym (eval_zeros p n α)) ∙ e, n)

  zeros_of_quotient : (α : A) (p : List A) → AllZero f (quotient_at f α p) → AllZero f p
  zeros_of_quotient α [] n = tt
  zeros_of_quotient α (c ∷ p) n = none_more α c p (zeros_of_quotient α p n.1) n.0

  quotient_zeros : (α c : A) (p : List A) → eval f (c ∷ p) α ≡ f.zero → (xs : List A) → (In α xs → ⊥) → Each (λ x. eval f (c ∷ p) x ≡ f.zero) xs → Each (λ x. eval f (quotient_at f α p) x ≡ f.zero) xs
  quotient_zeros α c p e [] d h = tt
  quotient_zeros α c p e (x ∷ xs) d h = (
    mul_nonzero k {x = f.add x α} (λ z. d (inl (sym (zero_sum k z))))
        (sym (zero_add (ring_laws k) _) ∙ ap (λ w. f.add w (f.mul (f.add x α) (eval f (quotient_at f α p) x))) (sym e) ∙ sym (factor α c p x) ∙ h.0),
    quotient_zeros α c p e xs (λ m. d (inr m)) h.1,
  )

  -- as many different zeros as coefficients: all coefficients are zero
  pub many_zeros : (xs : List A) → Distinct xs → (p : List A) → length p ≤ length xs → Each (λ x. eval f p x ≡ f.zero) xs → AllZero f p
  many_zeros xs d [] l h = tt
  many_zeros [] d (c ∷ p) l h = absurd (omega arith)
  many_zeros (α ∷ xs) d (c ∷ p) l h =
      let s : length (quotient_at f α p) ≤ length xs = omega (arith, length_quotient α p) in
      none_more α c p (zeros_of_quotient α p (many_zeros xs d.1 (quotient_at f α p) s (quotient_zeros α c p h.0 xs d.0 h.1))) h.0

  -- coefficients whose sums are all zero are equal
  pub none_same : (p q : List A) → AllZero f (sum f p q) → (j : ℕ) → ser (ring_of f) p j ≡ ser (ring_of f) q j
  none_same p q n j = zero_sum k (sym (ser_sum k p q j) ∙ coefficient (sum f p q) n j)
