-- The coefficients of a² + X·b² are the squares of those of a and b in turn.
use mathlib.Core.Path.{◌≡◌, refl, sym, ap, ap₂, ◌∙◌}
use mathlib.Core.List.{List, [], ◌∷◌}
use Prim.Native.Nat.{ℕ, zero, suc, ◌+◌, ◌≤◌}
use native.Mathlib.Omega.{arith}
use lib.ListN.{length}
use Rattle.algebra.specs.Field.{Ops, Laws}
use Rattle.algebra.specs.Poly.{eval}
use Rattle.algebra.proofs.Solve.{v, o, ◌⊕◌, ◌⊗◌}
use Rattle.patterson.specs.Points.{In, Distinct}
use Rattle.patterson.specs.Polys.{Poly, Vanishes}
use Rattle.patterson.specs.Locator.{from_parts}
use Rattle.patterson.proofs.Points.{each_of}
use Rattle.patterson.proofs.Elements.{ring, square_zero}
use Rattle.patterson.proofs.ZeroCount.{AllZero, many_zeros, eval_zeros}

-- the first n coefficients of p² + X·q²
abbrev pub weave : {A : Type 0} → Ops A → ℕ → List A → List A → List A
weave f zero p q = []
weave f (suc n) [] q = f.zero ∷ weave f n q []
weave f (suc n) (a ∷ p) q = f.mul a a ∷ weave f n q p

module _ {A : Type 0} {f : Ops A} (k : Laws f) (dec : (x y : A) → Dec (x ≡ y)) where
  pub length_weave : (n : ℕ) (p q : List A) → length (weave f n p q) ≡ n
  length_weave zero p q = refl
  length_weave (suc n) [] q = ap suc (length_weave n q [])
  length_weave (suc n) (a ∷ p) q = ap suc (length_weave n q p)

  pub eval_weave : (n : ℕ) (p q : List A) → length p + length p ≤ suc n → length q + length q ≤ n → (x : A) → eval f (weave f n p q) x ≡ from_parts f (eval f p) (eval f q) x
  eval_weave zero [] [] a b x = ring k (x ∷ []) o ((o ⊗ o) ⊕ (v 0 ⊗ (o ⊗ o))) refl
  eval_weave zero [] (y ∷ q) a b x = absurd (omega arith)
  eval_weave zero (z ∷ p) q a b x = absurd (omega arith)
  eval_weave (suc n) [] q a b x =
      ap (λ w. f.add f.zero (f.mul x w)) (eval_weave n q [] b (omega arith) x)
      ∙ ring k (x ∷ eval f q x ∷ []) (o ⊕ (v 0 ⊗ ((v 1 ⊗ v 1) ⊕ (v 0 ⊗ (o ⊗ o))))) ((o ⊗ o) ⊕ (v 0 ⊗ (v 1 ⊗ v 1))) refl
  eval_weave (suc n) (c ∷ p) q a b x =
      ap (λ w. f.add (f.mul c c) (f.mul x w)) (eval_weave n q p b (omega arith) x)
      ∙ ring k (x ∷ eval f q x ∷ c ∷ eval f p x ∷ [])
      ((v 2 ⊗ v 2) ⊕ (v 0 ⊗ ((v 1 ⊗ v 1) ⊕ (v 0 ⊗ (v 3 ⊗ v 3)))))
      (((v 2 ⊕ (v 0 ⊗ v 3)) ⊗ (v 2 ⊕ (v 0 ⊗ v 3))) ⊕ (v 0 ⊗ (v 1 ⊗ v 1))) refl

  pub none_weave : (n : ℕ) (p q : List A) → length p + length p ≤ suc n → length q + length q ≤ n → AllZero f (weave f n p q) → AllZero f p × AllZero f q
  none_weave zero [] [] a b h = (tt, tt)
  none_weave zero [] (y ∷ q) a b h = absurd (omega arith)
  none_weave zero (z ∷ p) q a b h = absurd (omega arith)
  none_weave (suc n) [] q a b h = (tt, (none_weave n q [] b (omega arith) h.1).0)
  none_weave (suc n) (c ∷ p) q a b h =
      let r = none_weave n q p b (omega arith) h.1 in
      ((square_zero k dec h.0, r.1), r.0)

  -- with n different zeros of a² + X·b² below n, b is zero
  pub parts_vanish : (n : ℕ) {d e : ℕ} {a b : A → A} → Poly f d a → Poly f e b → d + d ≤ suc n → e + e ≤ n → (xs : List A) → Distinct xs → n ≤ length xs → ((x : A) → In x xs → from_parts f a b x ≡ f.zero) → Vanishes f b
  parts_vanish n {a = a} {b = b} p q l m xs u w h x =
      let lp : length p.coefs + length p.coefs ≤ suc n = omega (arith, p.short) in
      let lq : length q.coefs + length q.coefs ≤ n = omega (arith, q.short) in
      let z = many_zeros k xs u (weave f n p.coefs q.coefs) (omega (arith, length_weave n p.coefs q.coefs))
      (each_of (λ y. eval f (weave f n p.coefs q.coefs) y ≡ f.zero) xs
      (λ y i. eval_weave n p.coefs q.coefs lp lq y
      ∙ ap₂ (λ s t. f.add (f.mul s s) (f.mul y (f.mul t t))) (sym (p.value y)) (sym (q.value y)) ∙ h y i)) in
      q.value x ∙ eval_zeros k q.coefs (none_weave n p.coefs q.coefs lp lq z).1 x
