-- Sums and products of lists of coefficients are those of the polynomials.
use Rattle.std.proofs.Common.{◌≡◌, ℕ, zero, suc, List, [], ◌∷◌, sym, refl, ap, ◌∙◌, ap₂}
use mathlib.Core.Path.{fun_ext}
use Rattle.algebra.specs.Field.{Ops, Laws}
use Rattle.algebra.specs.Ring.{ring_of}
use Rattle.algebra.specs.Poly.{sum, scale, product}
use Rattle.algebra.specs.Series.{ser, times, series}
use Rattle.algebra.proofs.Rings.{ring_laws, zero_add, mul_zero}
use Rattle.algebra.proofs.Series.{none_left}

module _ {A : Type 0} {f : Ops A} (k : Laws f) where
  pub ser_sum : (p q : List A) (i : ℕ) → ser (ring_of f) (sum f p q) i ≡ f.add (ser (ring_of f) p i) (ser (ring_of f) q i)
  ser_sum [] [] i = sym (k.add_zero f.zero)
  ser_sum [] (y ∷ ys) i = sym (zero_add (ring_laws k) (ser (ring_of f) (y ∷ ys) i))
  ser_sum (x ∷ xs) [] i = sym (k.add_zero (ser (ring_of f) (x ∷ xs) i))
  ser_sum (x ∷ xs) (y ∷ ys) zero = refl
  ser_sum (x ∷ xs) (y ∷ ys) (suc i) = ser_sum xs ys i

  pub ser_scale : (a : A) (p : List A) (i : ℕ) → ser (ring_of f) (scale f a p) i ≡ f.mul a (ser (ring_of f) p i)
  ser_scale a [] i = sym (mul_zero (ring_laws k) a)
  ser_scale a (x ∷ xs) zero = refl
  ser_scale a (x ∷ xs) (suc i) = ser_scale a xs i

  at_product : (n : ℕ) (p q : List A) → ser (ring_of f) (product f p q) n ≡ times (ring_of f) (ser (ring_of f) p) (ser (ring_of f) q) n
  at_product n [] q = sym (none_left (ring_laws k) n (ser (ring_of f) q))
  at_product zero (x ∷ xs) q = ser_sum (scale f x q) (f.zero ∷ product f xs q) 0 ∙ ap (λ (w : A). f.add w f.zero) (ser_scale x q 0) ∙ k.add_zero (f.mul x (ser (ring_of f) q 0))
  at_product (suc n) (x ∷ xs) q = ser_sum (scale f x q) (f.zero ∷ product f xs q) (suc n) ∙ ap₂ f.add (ser_scale x q (suc n)) (at_product n xs q)

  pub ser_product : (p q : List A) → ser (ring_of f) (product f p q) ≡ (series (ring_of f)).mul (ser (ring_of f) p) (ser (ring_of f) q)
  ser_product p q = fun_ext (λ n. at_product n p q)
