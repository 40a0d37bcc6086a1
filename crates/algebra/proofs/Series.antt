-- Polynomials over a ring are a ring.
use Rattle.std.proofs.Common.{◌≡◌, ℕ, zero, suc, sym, refl, ap, ◌∙◌, ap₂}
use mathlib.Core.Path.{fun_ext}
use Rattle.algebra.specs.Ring.{Ring, RingLaws}
use Rattle.algebra.specs.Series.{Series, tail, times, unit, series}
use Rattle.algebra.proofs.Rings.{zero_mul, add_mul, exchange}

module _ {A : Type 0} {r : Ring A} (k : RingLaws r) where
  pub times_right : (n : ℕ) (p q s : Series A) → times r p (λ i. r.add (q i) (s i)) n ≡ r.add (times r p q n) (times r p s n)
  times_right zero p q s = k.mul_add (p 0) (q 0) (s 0)
  times_right (suc n) p q s =
      ap₂ r.add (k.mul_add (p 0) (q (suc n)) (s (suc n))) (times_right n (tail p) q s)
      ∙ exchange k (r.mul (p 0) (q (suc n))) (r.mul (p 0) (s (suc n))) (times r (tail p) q n) (times r (tail p) s n)

  pub times_left : (n : ℕ) (p q s : Series A) → times r (λ i. r.add (p i) (q i)) s n ≡ r.add (times r p s n) (times r q s n)
  times_left zero p q s = add_mul k (p 0) (q 0) (s 0)
  times_left (suc n) p q s =
      ap₂ r.add (add_mul k (p 0) (q 0) (s (suc n))) (times_left n (tail p) (tail q) s)
      ∙ exchange k (r.mul (p 0) (s (suc n))) (r.mul (q 0) (s (suc n))) (times r (tail p) s n) (times r (tail q) s n)

  pub times_scale : (n : ℕ) (a : A) (p q : Series A) → times r (λ i. r.mul a (p i)) q n ≡ r.mul a (times r p q n)
  times_scale zero a p q = k.mul_assoc a (p 0) (q 0)
  times_scale (suc n) a p q =
      ap₂ r.add (k.mul_assoc a (p 0) (q (suc n))) (times_scale n a (tail p) q)
      ∙ sym (k.mul_add a (r.mul (p 0) (q (suc n))) (times r (tail p) q n))

  -- the first coefficient of the second factor taken off
  mirror : (n : ℕ) (p q : Series A) → times r p q (suc n) ≡ r.add (times r p (tail q) n) (r.mul (p (suc n)) (q 0))
  mirror zero p q = refl
  mirror (suc n) p q =
      ap (r.add (r.mul (p 0) (q (suc (suc n))))) (mirror n (tail p) q)
      ∙ sym (k.add_assoc (r.mul (p 0) (q (suc (suc n)))) (times r (tail p) (tail q) n) (r.mul (p (suc (suc n))) (q 0)))

  pub times_comm : (n : ℕ) (p q : Series A) → times r p q n ≡ times r q p n
  times_comm zero p q = k.mul_comm (p 0) (q 0)
  times_comm (suc n) p q =
      ap₂ r.add (k.mul_comm (p 0) (q (suc n))) (times_comm n (tail p) q)
      ∙ k.add_comm (r.mul (q (suc n)) (p 0)) (times r q (tail p) n)
      ∙ sym (mirror n q p)

  pub times_assoc : (n : ℕ) (p q s : Series A) → times r (λ i. times r p q i) s n ≡ times r p (λ i. times r q s i) n
  times_assoc zero p q s = k.mul_assoc (p 0) (q 0) (s 0)
  times_assoc (suc n) p q s =
      let a = p 0 in
      ap₂ r.add (k.mul_assoc a (q 0) (s (suc n)))
      (times_left n (λ i. r.mul a (q (suc i))) (λ i. times r (tail p) q i) s
      ∙ ap₂ r.add (times_scale n a (tail q) s) (times_assoc n (tail p) q s))
      ∙ sym (k.add_assoc (r.mul a (r.mul (q 0) (s (suc n)))) (r.mul a (times r (tail q) s n)) (times r (tail p) (λ i. times r q s i) n))
      ∙ ap (λ (w : A). r.add w (times r (tail p) (λ i. times r q s i) n)) (sym (k.mul_add a (r.mul (q 0) (s (suc n))) (times r (tail q) s n)))

  -- zero times p
  pub none_left : (n : ℕ) (p : Series A) → times r (λ i. r.zero) p n ≡ r.zero
  none_left zero p = zero_mul k (p 0)
  none_left (suc n) p = ap₂ r.add (zero_mul k (p (suc n))) (none_left n p) ∙ k.add_zero r.zero

  unit_left : (n : ℕ) (p : Series A) → times r (unit r) p n ≡ p n
  unit_left zero p = k.mul_comm r.one (p 0) ∙ k.mul_one (p 0)
  unit_left (suc n) p = ap₂ r.add (k.mul_comm r.one (p (suc n)) ∙ k.mul_one (p (suc n))) (none_left n p) ∙ k.add_zero (p (suc n))

  pub series_laws : RingLaws (series r)
  series_laws = record {
    add_assoc = λ p q s. fun_ext (λ i. k.add_assoc (p i) (q i) (s i));
    add_comm = λ p q. fun_ext (λ i. k.add_comm (p i) (q i));
    add_zero = λ p. fun_ext (λ i. k.add_zero (p i));
    add_self = λ p. fun_ext (λ i. k.add_self (p i));
    mul_assoc = λ p q s. fun_ext (λ n. times_assoc n p q s);
    mul_comm = λ p q. fun_ext (λ n. times_comm n p q);
    mul_one = λ p. fun_ext (λ n. times_comm n p (unit r) ∙ unit_left n p);
    mul_add = λ p q s. fun_ext (λ n. times_right n p q s);
  }
