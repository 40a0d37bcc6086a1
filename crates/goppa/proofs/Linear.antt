-- Products with X - a, by their coefficients.
use Rattle.std.proofs.Common.{◌≡◌, ℕ, zero, suc, ◌-◌, ◌^◌, ◌<◌, ◌≤◌, List, length, get_or, sym, refl, ap, ◌∙◌, subst, ap₂, arith, pow_pos}
use mathlib.Core.Path.{fun_ext}
use native.Mathlib.Decide.{dec_lt}
use Rattle.std.proofs.lemmas.List.{get_or_past}
use Rattle.algebra.specs.Field.{Ops, Laws, Places}
use Rattle.algebra.specs.Series.{Series, Below}
use Rattle.algebra.proofs.Rings.{ring_laws, zero_add, mul_zero, add_mul}
use Rattle.polys.specs.Coefs.{poly, coefs, mono}
use Rattle.polys.proofs.Terms.{poly_laws, at_add, mono_high, mono_low}
use Rattle.polys.proofs.Lists.{coefs_at, below_list}
use Rattle.polys.proofs.Rule.{one_write}
use Rattle.goppa.specs.Zeros.{linear, AllPlaces}

-- what was written is numbers of elements
pub all_written : {A : Type 0} {m : ℕ} (pl : Places A m) (l : List ℕ) (n : ℕ) (w : ℕ → A) → length l ≡ n → ((j : ℕ) → j < n → get_or l j 0 ≡ pl.num (w j)) → AllPlaces m l
all_written {m = m} pl l n w e h j = elim (dec_lt j n) [
  | yes b ↦ subst (λ (x : ℕ). x < 2 ^ m) (sym (h j b)) (pl.num_below (w j))
  | no b ↦ subst (λ (x : ℕ). x < 2 ^ m) (sym (get_or_past l j 0 (omega arith))) (pow_pos m)
]

module _ {A : Type 0} {f : Ops A} (k : Laws f) where
  pub one_mono : mono f f.one 0 ≡ (poly f).one
  one_mono = one_write k (poly f).zero (mono f f.one 0) refl (sym (zero_add (poly_laws k) (mono f f.one 0)))

  -- X·p
  pub shift_zero : (p : Series A) → (poly f).mul (mono f f.one 1) p 0 ≡ f.zero
  shift_zero p = mono_low k f.one 1 p 0 (omega arith)

  pub shift_suc : (p : Series A) (n : ℕ) → (poly f).mul (mono f f.one 1) p (suc n) ≡ p n
  shift_suc p n = mono_high k f.one 1 p n (suc n) (omega arith) ∙ k.mul_comm f.one (p n) ∙ k.mul_one (p n)

  -- (X - a)·p
  pub linear_at : (a : A) (p : Series A) (n : ℕ) → (poly f).mul (linear f a) p n ≡ f.add ((poly f).mul (mono f f.one 1) p n) (f.mul a (p n))
  unfolding linear
  linear_at a p n =
      ap (λ (w : Series A). w n) (add_mul (poly_laws k) (mono f f.one 1) (mono f a 0) p)
      ∙ at_add k ((poly f).mul (mono f f.one 1) p) ((poly f).mul (mono f a 0) p) n
      ∙ ap (f.add ((poly f).mul (mono f f.one 1) p n)) (mono_high k a 0 p n n (omega arith))

  pub linear_zero : (a : A) (p : Series A) → (poly f).mul (linear f a) p 0 ≡ f.mul a (p 0)
  linear_zero a p = linear_at a p 0 ∙ ap (λ (w : A). f.add w (f.mul a (p 0))) (shift_zero p) ∙ zero_add (ring_laws k) (f.mul a (p 0))

  pub linear_suc : (a : A) (p : Series A) (n : ℕ) → (poly f).mul (linear f a) p (suc n) ≡ f.add (p n) (f.mul a (p (suc n)))
  linear_suc a p n = linear_at a p (suc n) ∙ ap (λ (w : A). f.add w (f.mul a (p (suc n)))) (shift_suc p n)

  -- the degree is one more at most
  pub linear_below : (a : A) (n : ℕ) (p : Series A) → Below f n p → Below f (suc n) ((poly f).mul (linear f a) p)
  linear_below a n p u zero h = absurd (omega arith)
  linear_below a n p u (suc j) h =
      linear_suc a p j ∙ ap₂ (λ (x y : A). f.add x (f.mul a y)) (u j (omega arith)) (u (suc j) (omega arith))
      ∙ ap (f.add f.zero) (mul_zero (ring_laws k) a) ∙ k.add_zero f.zero

  module _ {m : ℕ} (pl : Places A m) (z : pl.at 0 ≡ f.zero) where
    -- every coefficient was written
    pub linear_all : (a : A) (p q : List ℕ) → 1 ≤ length p → length q ≡ length p → Below f (length p - 1) (coefs pl p)
        → ((j : ℕ) → j < length p → get_or q j 0 ≡ pl.num ((poly f).mul (linear f a) (coefs pl p) j))
        → coefs pl q ≡ (poly f).mul (linear f a) (coefs pl p)
    linear_all a p q pos e u h = fun_ext (λ j. elim (dec_lt j (length p)) [
      | yes l ↦ coefs_at k pl q j ∙ ap pl.at (h j l) ∙ pl.at_num ((poly f).mul (linear f a) (coefs pl p) j)
      | no l ↦ below_list k pl z q j (omega arith) ∙ sym (linear_below a (length p - 1) (coefs pl p) u j (omega arith))
    ])
