-- Sums and products of polynomials, their bounds, and the count of zeros.
use mathlib.Core.Path.{◌≡◌, refl, sym, ap, ap₂, ◌∙◌}
use mathlib.Core.List.{List, [], ◌∷◌}
use Prim.Native.Nat.{ℕ, zero, suc, ◌+◌, ◌≤◌, ◌<◌}
use native.Mathlib.Omega.{arith}
use native.Mathlib.Decide.{dec_le}
use lib.ListN.{length, take}
use Rattle.algebra.specs.Field.{Ops, Laws}
use Rattle.algebra.specs.Ring.{ring_of}
use Rattle.algebra.specs.Poly.{sum, scale, product, eval}
use Rattle.algebra.specs.Series.{Below, ser}
use Rattle.algebra.proofs.Rings.{ring_laws, zero_add, mul_zero}
use Rattle.algebra.proofs.Eval.{eval_sum, eval_scale, eval_product}
use Rattle.algebra.proofs.Solve.{v, o, ◌⊕◌, ◌⊗◌}
use Rattle.patterson.specs.Points.{In, Distinct}
use Rattle.patterson.specs.Polys.{Poly, Vanishes}
use Rattle.patterson.proofs.Points.{each_of}
use Rattle.patterson.proofs.Elements.{ring, sum_zero}
use Rattle.patterson.proofs.ZeroCount.{AllZero, many_zeros, eval_zeros, none_same}

module _ {A : Type 0} (f : Ops A) where
  pub length_sum : (p q : List A) (n : ℕ) → length p ≤ n → length q ≤ n → length (sum f p q) ≤ n
  length_sum [] [] n a b = a
  length_sum [] (y ∷ q) n a b = b
  length_sum (x ∷ p) [] n a b = a
  length_sum (x ∷ p) (y ∷ q) zero a b = absurd (omega arith)
  length_sum (x ∷ p) (y ∷ q) (suc n) a b = let h : length (sum f p q) ≤ n = length_sum p q n (omega arith) (omega arith) in omega arith

  pub length_scale : (c : A) (p : List A) → length (scale f c p) ≡ length p
  length_scale c [] = refl
  length_scale c (x ∷ p) = ap suc (length_scale c p)

  -- with one coefficient more than the factor's degree, the bounds add
  length_product : (p q : List A) (n m : ℕ) → length p ≤ suc n → length q ≤ suc m → length (product f p q) ≤ suc (n + m)
  length_product [] q n m a b = omega arith
  length_product (x ∷ []) q n m a b =
      length_sum (scale f x q) (f.zero ∷ []) (suc (n + m)) (omega (arith, length_scale x q)) (omega arith)
  length_product (x ∷ y ∷ p) q zero m a b = absurd (omega arith)
  length_product (x ∷ y ∷ p) q (suc n) m a b =
      let h : length (product f (y ∷ p) q) ≤ suc (n + m) = length_product (y ∷ p) q n m (omega arith) b in
      length_sum (scale f x q) (f.zero ∷ product f (y ∷ p) q) (suc (suc n + m)) (omega (arith, length_scale x q)) (omega arith)

module _ {A : Type 0} {f : Ops A} (k : Laws f) where
  pub poly_zero : (d : ℕ) → Poly f d (λ x. f.zero)
  poly_zero d = record { coefs = []; short = omega arith; value = λ x. refl }

  pub poly_const : (c : A) → Poly f 1 (λ x. c)
  poly_const c = record { coefs = c ∷ []; short = omega arith; value = λ x. ring k (c ∷ x ∷ []) (v 0) (v 0 ⊕ (v 1 ⊗ o)) refl }

  pub poly_wider : {d : ℕ} (e : ℕ) {φ : A → A} → d ≤ e → Poly f d φ → Poly f e φ
  poly_wider e h p = record { coefs = p.coefs; short = omega (arith, p.short); value = p.value }

  -- equal values
  pub poly_same : {d : ℕ} {φ : A → A} (ψ : A → A) → ((x : A) → ψ x ≡ φ x) → Poly f d φ → Poly f d ψ
  poly_same ψ e p = record { coefs = p.coefs; short = p.short; value = λ x. e x ∙ p.value x }

  pub poly_add : {d : ℕ} {φ ψ : A → A} → Poly f d φ → Poly f d ψ → Poly f d (λ x. f.add (φ x) (ψ x))
  poly_add {d} p q = record {
    coefs = sum f p.coefs q.coefs;
    short = length_sum f p.coefs q.coefs d p.short q.short;
    value = λ x. ap₂ f.add (p.value x) (q.value x) ∙ sym (eval_sum k p.coefs q.coefs x);
  }

  pub poly_scale : {d : ℕ} {φ : A → A} (c : A) → Poly f d φ → Poly f d (λ x. f.mul c (φ x))
  poly_scale c p = record {
    coefs = scale f c p.coefs;
    short = omega (arith, length_scale f c p.coefs, p.short);
    value = λ x. ap (f.mul c) (p.value x) ∙ sym (eval_scale k c p.coefs x);
  }

  -- X times a polynomial
  pub poly_shift : {d : ℕ} {φ : A → A} → Poly f d φ → Poly f (suc d) (λ x. f.mul x (φ x))
  poly_shift p = record {
    coefs = f.zero ∷ p.coefs;
    short = omega (arith, p.short);
    value = λ x. ap (f.mul x) (p.value x) ∙ sym (zero_add (ring_laws k) (f.mul x (eval f p.coefs x)));
  }

  pub poly_mul : {d e : ℕ} {φ ψ : A → A} → Poly f (suc d) φ → Poly f (suc e) ψ → Poly f (suc (d + e)) (λ x. f.mul (φ x) (ψ x))
  poly_mul {d} {e} p q = record {
    coefs = product f p.coefs q.coefs;
    short = length_product f p.coefs q.coefs d e p.short q.short;
    value = λ x. ap₂ f.mul (p.value x) (q.value x) ∙ sym (eval_product k p.coefs q.coefs x);
  }

  none_left : (p : List A) → length p ≤ 0 → (x : A) → eval f p x ≡ f.zero
  none_left [] h x = refl
  none_left (c ∷ p) h x = absurd (omega arith)

  pub poly_none : {φ : A → A} → Poly f 0 φ → Vanishes f φ
  poly_none p x = p.value x ∙ none_left p.coefs p.short x

  -- the bounds add, less one
  pub poly_times : {d : ℕ} (e : ℕ) {φ ψ : A → A} → Poly f (suc d) φ → Poly f e ψ → Poly f (d + e) (λ x. f.mul (φ x) (ψ x))
  poly_times {d} zero {φ} {ψ} p q =
      poly_same (λ x. f.mul (φ x) (ψ x)) (λ x. ap (f.mul (φ x)) (poly_none q x) ∙ mul_zero (ring_laws k) (φ x)) (poly_zero (d + 0))
  poly_times {d} (suc e) p q = poly_wider (d + suc e) (omega arith) (poly_mul p q)

  -- d different zeros below d: zero everywhere
  pub vanishes : {d : ℕ} {φ : A → A} → Poly f d φ → (xs : List A) → Distinct xs → d ≤ length xs → ((x : A) → In x xs → φ x ≡ f.zero) → Vanishes f φ
  vanishes p xs d l h x =
      let n : AllZero f p.coefs = many_zeros k xs d p.coefs (omega (arith, p.short)) (each_of (λ y. eval f p.coefs y ≡ f.zero) xs (λ y m. sym (p.value y) ∙ h y m)) in
      p.value x ∙ eval_zeros k p.coefs n x

  -- a polynomial below d that is not zero everywhere has less than d zeros
  pub few_zeros : {d : ℕ} {φ : A → A} → Poly f d φ → (Vanishes f φ → ⊥) → (xs : List A) → Distinct xs → ((x : A) → In x xs → φ x ≡ f.zero) → length xs < d
  few_zeros {d} p n xs u h = elim (dec_le d (length xs)) [ yes l ↦ absurd (n (vanishes p xs u l h)) | no l ↦ omega arith ]

  -- two polynomials below d with equal values at d different points have equal coefficients
  pub same_coefficients : (d : ℕ) (p q : List A) → length p ≤ d → length q ≤ d → (xs : List A) → Distinct xs → d ≤ length xs → ((x : A) → In x xs → eval f p x ≡ eval f q x)
      → (j : ℕ) → ser (ring_of f) p j ≡ ser (ring_of f) q j
  same_coefficients d p q lp lq xs u l h =
      let short : length (sum f p q) ≤ length xs = omega (arith, length_sum f p q d lp lq) in
      none_same k p q (many_zeros k xs u (sum f p q) short (each_of (λ x. eval f (sum f p q) x ≡ f.zero) xs (λ x m. eval_sum k p q x ∙ sum_zero k (h x m))))

  constant : (p : List A) → length p ≤ 1 → (x y : A) → eval f p x ≡ eval f p y
  constant [] h x y = refl
  constant (c ∷ []) h x y = ring k (c ∷ x ∷ y ∷ []) (v 0 ⊕ (v 1 ⊗ o)) (v 0 ⊕ (v 2 ⊗ o)) refl
  constant (c ∷ e ∷ p) h x y = absurd (omega arith)

  pub poly_constant : {φ : A → A} → Poly f 1 φ → (x y : A) → φ x ≡ φ y
  poly_constant p x y = p.value x ∙ constant p.coefs p.short x y ∙ sym (p.value y)

  -- a list of coefficients that are zero from d on
  eval_front : (p : List A) (d : ℕ) → Below f d (ser (ring_of f) p) → (x : A) → eval f p x ≡ eval f (take d p) x
  eval_front [] zero b x = refl
  eval_front [] (suc d) b x = refl
  eval_front (c ∷ p) zero b x =
      ap₂ (λ u w. f.add u (f.mul x w)) (b 0 (omega arith)) (eval_front p zero (λ i l. b (suc i) (omega arith)) x)
      ∙ zero_add (ring_laws k) (f.mul x f.zero) ∙ mul_zero (ring_laws k) x
  eval_front (c ∷ p) (suc d) b x = ap (λ w. f.add c (f.mul x w)) (eval_front p d (λ i l. b (suc i) (omega arith)) x)

  length_front : (p : List A) (d : ℕ) → length (take d p) ≤ d
  length_front p zero = omega arith
  length_front [] (suc d) = omega arith
  length_front (c ∷ p) (suc d) = let h = length_front p d in omega arith

  pub poly_list : (p : List A) (d : ℕ) → Below f d (ser (ring_of f) p) → Poly f d (eval f p)
  poly_list p d b = record { coefs = take d p; short = length_front p d; value = eval_front p d b }
