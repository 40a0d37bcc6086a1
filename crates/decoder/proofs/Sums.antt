-- Sums of columns, as elements and as bits.
use Rattle.std.proofs.Common.{◌≡◌, ℕ, zero, suc, ◌+◌, ◌<◌, Bool, true, false, cond, ◌&&◌, List, [], ◌∷◌, map, length, get_or, drop, sym, refl, ap, ◌∙◌, ap₂, add-one, arith}
use lib.Bits.{bit_xor}
use Rattle.algebra.specs.Field.{Ops, Laws, Places}
use Rattle.algebra.specs.Ring.{ring_of}
use Rattle.algebra.specs.Poly.{eval}
use Rattle.algebra.specs.Series.{ser, tail}
use Rattle.algebra.proofs.Rings.{ring_laws, zero_add}
use Rattle.algebra.proofs.Lists.{ser_sum, ser_scale}
use Rattle.polys.specs.Coefs.{coefs}
use Rattle.polys.specs.Values.{value}
use Rattle.polys.proofs.Bridge.{front}
use Rattle.polys.proofs.Points.{num_zero}
use Rattle.bits.specs.Vectors.{◌⊕◌, Vector, dot}
use Rattle.bits.proofs.Sums.{and_no, and_yes}
use Rattle.matrices.specs.Columns.{number_bit}
use Rattle.goppa.specs.Columns.{over_coefficient}
use Rattle.goppa.specs.Matrix.{column_place}
use Rattle.goppa.proofs.Quotients.{over_value}
use Rattle.patterson.specs.Columns.{quotient_at, column, columns_sum}
use Rattle.decoder.specs.Sums.{selected, column_sum}
use Rattle.decoder.proofs.Numbers.{low_xor, low_zero}

module _ {A : Type 0} {f : Ops A} (k : Laws f) where
  pub selected_same : (n : ℕ) (h g : ℕ → A) (e : Vector) → ((j : ℕ) → j < n → h j ≡ g j) → selected f n h e ≡ selected f n g e
  unfolding selected
  selected_same zero h g e same = refl
  selected_same (suc n) h g e same = ap₂ (λ (x y : A). f.add x (cond (e n) y f.zero)) (selected_same n h g e (λ j l. same j (omega arith))) (same n (omega arith))

  -- the first one apart
  selected_first : (n : ℕ) (h : ℕ → A) (e : Vector) → selected f (suc n) h e ≡ f.add (cond (e 0) (h 0) f.zero) (selected f n (tail h) (tail e))
  unfolding selected
  selected_first zero h e = k.add_comm f.zero (cond (e 0) (h 0) f.zero)
  selected_first (suc n) h e =
      ap (λ (x : A). f.add x (cond (e (suc n)) (h (suc n)) f.zero)) (selected_first n h e)
      ∙ k.add_assoc (cond (e 0) (h 0) f.zero) (selected f n (tail h) (tail e)) (cond (e (suc n)) (h (suc n)) f.zero)

  module _ {m : ℕ} (pl : Places A m) (z : pl.at 0 ≡ f.zero) where
    pub columns_front : (g : List A) (r : ℕ) (l : List ℕ) (e : Vector)
        → ser (ring_of f) (columns_sum f g (front (length l) e) (map pl.at l)) r ≡ selected f (length l) (λ j. ser (ring_of f) (column f g (pl.at (get_or l j 0))) r) e
    unfolding selected
    columns_front g r [] e = refl
    columns_front g r (x ∷ l) e = first (e 0) (columns_front g r l (tail e)) ∙ sym (selected_first (length l) (λ j. ser (ring_of f) (column f g (pl.at (get_or (x ∷ l) j 0))) r) e) where
      first : (b : Bool)
          → ser (ring_of f) (columns_sum f g (front (length l) (tail e)) (map pl.at l)) r ≡ selected f (length l) (λ j. ser (ring_of f) (column f g (pl.at (get_or l j 0))) r) (tail e)
          → ser (ring_of f) (columns_sum f g (b ∷ front (length l) (tail e)) (map pl.at (x ∷ l))) r
          ≡ f.add (cond b (ser (ring_of f) (column f g (pl.at x)) r) f.zero) (selected f (length l) (λ j. ser (ring_of f) (column f g (pl.at (get_or l j 0))) r) (tail e))
      first true rest = ser_sum k (column f g (pl.at x)) (columns_sum f g (front (length l) (tail e)) (map pl.at l)) r ∙ ap (f.add (ser (ring_of f) (column f g (pl.at x)) r)) rest
      first false rest = rest ∙ sym (zero_add (ring_laws k) (selected f (length l) (λ j. ser (ring_of f) (column f g (pl.at (get_or l j 0))) r) (tail e)))

    quotient_value : (a : A) (p : List ℕ) (r : ℕ) → ser (ring_of f) (quotient_at f a (map pl.at p)) r ≡ value f pl (drop r p) a
    unfolding value
    quotient_value a [] zero = refl
    quotient_value a [] (suc r) = refl
    quotient_value a (c ∷ p) zero = refl
    quotient_value a (c ∷ p) (suc r) = quotient_value a p r

    scaled_quotient : (g : List ℕ) (a : A) (r : ℕ) → ser (ring_of f) (column f (map pl.at g) a) r ≡ f.mul (f.inv (value f pl g a)) (value f pl (drop (suc r) g) a)
    unfolding value
    scaled_quotient [] a r = sym (Rattle.algebra.proofs.Rings.mul_zero (ring_laws k) (f.inv f.zero))
    scaled_quotient (c ∷ p) a r = ser_scale k (f.inv (eval f (pl.at c ∷ map pl.at p) a)) (quotient_at f a (map pl.at p)) r ∙ ap (f.mul (f.inv (eval f (pl.at c ∷ map pl.at p) a))) (quotient_value a p r)

    -- a coefficient of a column
    pub column_coefficient : (t : ℕ) (g : List ℕ) (x r : ℕ) → length g ≡ t + 1 → ser (ring_of f) (column f (map pl.at g) (pl.at x)) r ≡ pl.at (column_place f pl t g x r)
    unfolding column_place
    column_coefficient t g x r long =
        scaled_quotient g (pl.at x) r
        ∙ ap (λ (n : ℕ). f.mul (f.inv (value f pl g (pl.at x))) (value f pl (drop n g) (pl.at x))) (sym (add-one r))
        ∙ ap (f.mul (f.inv (value f pl g (pl.at x)))) (over_value k pl z t r g (pl.at x) long)
        ∙ k.mul_comm (f.inv (value f pl g (pl.at x))) (over_coefficient f t (coefs pl g) (pl.at x) r)
        ∙ sym (pl.at_num (f.mul (over_coefficient f t (coefs pl g) (pl.at x) r) (f.inv (value f pl g (pl.at x)))))

    pub column_place_lem : (t : ℕ) (g : List ℕ) (x r : ℕ) → pl.num (pl.at (column_place f pl t g x r)) ≡ column_place f pl t g x r
    unfolding column_place
    column_place_lem t g x r = ap pl.num (pl.at_num _)

    module _ (sums : (x y : A) → pl.num (f.add x y) ≡ bit_xor (pl.num x) (pl.num y)) where
      one_bit : (b : Bool) (x : A) (i : ℕ) → number_bit (pl.num (cond b x f.zero)) i ≡ (number_bit (pl.num x) i && b)
      one_bit true x i = sym (and_yes (number_bit (pl.num x) i))
      one_bit false x i = ap (λ (n : ℕ). number_bit n i) (num_zero f pl z) ∙ low_zero i ∙ sym (and_no (number_bit (pl.num x) i))

      -- the bits of a sum are the sums of the bits
      pub low_selected : (n : ℕ) (h : ℕ → A) (e : Vector) (i : ℕ) → number_bit (pl.num (selected f n h e)) i ≡ dot n (λ j. number_bit (pl.num (h j)) i) e
      unfolding selected dot
      low_selected zero h e i = ap (λ (n : ℕ). number_bit n i) (num_zero f pl z) ∙ low_zero i
      low_selected (suc n) h e i =
          ap (λ (x : ℕ). number_bit x i) (sums (selected f n h e) (cond (e n) (h n) f.zero))
          ∙ low_xor (pl.num (selected f n h e)) (pl.num (cond (e n) (h n) f.zero)) i
          ∙ ap₂ (λ (x y : Bool). x ⊕ y) (low_selected n h e i) (one_bit (e n) (h n) i)

pub column_sum_more : {A : Type 0} {m : ℕ} (f : Ops A) (pl : Places A m) (t : ℕ) (g support : List ℕ) (n : ℕ) (e : Vector) (r : ℕ)
    → column_sum f pl t g support (n + 1) e r ≡ f.add (column_sum f pl t g support n e r) (cond (e n) (pl.at (column_place f pl t g (get_or support n 0) r)) f.zero)
unfolding column_sum selected
column_sum_more f pl t g support n e r = ap (λ k. selected f k (λ j. pl.at (column_place f pl t g (get_or support j 0) r)) e) (add-one n)
