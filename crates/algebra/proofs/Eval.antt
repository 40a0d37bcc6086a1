-- The value of a sum and of a product of polynomials, and of lists with the same coefficients.
use Rattle.std.proofs.Common.{◌≡◌, ℕ, suc, List, [], ◌∷◌, sym, refl, ap, ◌∙◌, ap₂}
use Rattle.algebra.specs.Field.{Ops, Laws}
use Rattle.algebra.specs.Ring.{ring_of}
use Rattle.algebra.specs.Poly.{sum, scale, product, eval}
use Rattle.algebra.specs.Series.{ser}
use Rattle.algebra.proofs.Rings.{ring_laws, zero_add, mul_zero, zero_mul, add_mul, exchange}

module _ {A : Type 0} {f : Ops A} (k : Laws f) where
  pub eval_sum : (p q : List A) (v : A) → eval f (sum f p q) v ≡ f.add (eval f p v) (eval f q v)
  eval_sum [] [] v = sym (zero_add (ring_laws k) f.zero)
  eval_sum [] (y ∷ ys) v = sym (zero_add (ring_laws k) _)
  eval_sum (x ∷ xs) [] v = sym (k.add_zero _)
  eval_sum (x ∷ xs) (y ∷ ys) v =
      rw (eval_sum xs ys v, k.mul_add v (eval f xs v) (eval f ys v)) (exchange (ring_laws k) x y (f.mul v (eval f xs v)) (f.mul v (eval f ys v)))

  pub eval_scale : (a : A) (p : List A) (v : A) → eval f (scale f a p) v ≡ f.mul a (eval f p v)
  eval_scale a [] v = sym (mul_zero (ring_laws k) a)
  eval_scale a (x ∷ xs) v =
      rw (eval_scale a xs v, k.mul_add a x (f.mul v (eval f xs v)))
      (ap (f.add (f.mul a x)) (sym (k.mul_assoc v a (eval f xs v)) ∙ ap (λ (w : A). f.mul w (eval f xs v)) (k.mul_comm v a) ∙ k.mul_assoc a v (eval f xs v)))

  pub eval_product : (p q : List A) (v : A) → eval f (product f p q) v ≡ f.mul (eval f p v) (eval f q v)
  eval_product [] q v = sym (zero_mul (ring_laws k) (eval f q v))
  eval_product (x ∷ xs) q v =
      rw (eval_sum (scale f x q) (f.zero ∷ product f xs q) v, eval_scale x q v, zero_add (ring_laws k) (f.mul v (eval f (product f xs q) v)), eval_product xs q v, add_mul (ring_laws k) x (f.mul v (eval f xs v)) (eval f q v))
      (ap (f.add (f.mul x (eval f q v))) (sym (k.mul_assoc v (eval f xs v) (eval f q v))))

  pub eval_none : (l : List A) (x : A) → ((j : ℕ) → ser (ring_of f) l j ≡ f.zero) → eval f l x ≡ f.zero
  eval_none [] x h = refl
  eval_none (y ∷ l) x h =
      ap₂ (λ u w. f.add u (f.mul x w)) (h 0) (eval_none l x (λ j. h (suc j))) ∙ zero_add (ring_laws k) (f.mul x f.zero) ∙ mul_zero (ring_laws k) x

  -- lists with the same coefficients, of whatever lengths
  pub eval_same : (l m : List A) (x : A) → ((j : ℕ) → ser (ring_of f) l j ≡ ser (ring_of f) m j) → eval f l x ≡ eval f m x
  eval_same [] m x h = sym (eval_none m x (λ j. sym (h j)))
  eval_same (y ∷ l) [] x h = eval_none (y ∷ l) x h
  eval_same (y ∷ l) (w ∷ m) x h = ap₂ (λ u t. f.add u (f.mul x t)) (h 0) (eval_same l m x (λ j. h (suc j)))
