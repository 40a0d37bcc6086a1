-- The quotient of a polynomial by X - a, and the inverse of X - a that it gives.
use Rattle.std.proofs.Common.{◌≡◌, ℕ, zero, suc, ◌+◌, ◌-◌, ◌<◌, ◌≤◌, List, [], ◌∷◌, map, length, get_or, drop, sym, refl, ap, ◌∙◌, ap₂, add-one, arith, length-drop, drop_of_length-le, get_or-drop, get_or-set_other, drop-cons}
use mathlib.Core.Path.{fun_ext}
use native.Mathlib.Decide.{dec_lt}
use Rattle.std.proofs.lemmas.List.{length-map}
use Rattle.std.proofs.lemmas.Grind.{get_or-set_at}
use Rattle.algebra.specs.Field.{Ops, Laws, Places}
use Rattle.algebra.specs.Ring.{ring_of}
use Rattle.algebra.specs.Poly.{eval}
use Rattle.algebra.specs.Series.{Series, tail, ser}
use Rattle.algebra.proofs.Rings.{ring_laws, zero_add, mul_zero}
use Rattle.algebra.proofs.Solve.{v, o, ◌⊕◌, ◌⊗◌, solve}
use Rattle.polys.specs.Coefs.{poly, coefs, Placed, mono}
use Rattle.polys.specs.Euclid.{Inverse}
use Rattle.polys.specs.Values.{value}
use Rattle.polys.proofs.Terms.{poly_laws, at_add, mono_same, mono_other, mono_high, mono_mul}
use Rattle.polys.proofs.Lists.{coefs_at, coefs_map, below_list}
use Rattle.polys.proofs.One.{one_inverse}
use Rattle.goppa.specs.Zeros.{linear}
use Rattle.goppa.specs.Columns.{power, sum_to, over_coefficient, Column}
use Rattle.goppa.proofs.Linear.{one_mono, linear_zero, linear_suc, all_written}

module _ {A : Type 0} {f : Ops A} (k : Laws f) where
  sum_scale : (n : ℕ) (x : A) (h : ℕ → A) → f.mul x (sum_to f n h) ≡ sum_to f n (λ c. f.mul x (h c))
  sum_scale zero x h = mul_zero (ring_laws k) x
  sum_scale (suc n) x h = k.mul_add x (h 0) (sum_to f n (λ c. h (suc c))) ∙ ap (f.add (f.mul x (h 0))) (sum_scale n x (λ c. h (suc c)))

  sum_same : (n : ℕ) (h g : ℕ → A) → ((c : ℕ) → h c ≡ g c) → sum_to f n h ≡ sum_to f n g
  sum_same zero h g e = refl
  sum_same (suc n) h g e = ap₂ f.add (e 0) (sum_same n (λ c. h (suc c)) (λ c. g (suc c)) (λ c. e (suc c)))

  eval_is_sum : (l : List A) (x : A) → eval f l x ≡ sum_to f (length l) (λ c. f.mul (ser (ring_of f) l c) (power f x c))
  eval_is_sum [] x = refl
  eval_is_sum (y ∷ l) x =
      ap₂ f.add (sym (k.mul_one y))
      (ap (f.mul x) (eval_is_sum l x)
      ∙ sum_scale (length l) x (λ c. f.mul (ser (ring_of f) l c) (power f x c))
      ∙ sum_same (length l) (λ c. f.mul x (f.mul (ser (ring_of f) l c) (power f x c))) (λ c. f.mul (ser (ring_of f) l c) (f.mul x (power f x c)))
      (λ c. solve (ring_laws k) (x ∷ ser (ring_of f) l c ∷ power f x c ∷ []) (v 0 ⊗ (v 1 ⊗ v 2)) (v 1 ⊗ (v 0 ⊗ v 2)) refl))

  -- p is (X - a)·q + w 0, where q is w without its first, and w the steps of Horner's rule
  whole : (p w : Series A) (a : A) → ((n : ℕ) → w n ≡ f.add (p n) (f.mul a (w (suc n)))) → p ≡ (poly f).add ((poly f).mul (linear f a) (tail w)) (mono f (w 0) 0)
  whole p w a h = fun_ext (λ j. back j ∙ sym (at_add k ((poly f).mul (linear f a) (tail w)) (mono f (w 0) 0) j)) where
    back : (j : ℕ) → p j ≡ f.add ((poly f).mul (linear f a) (tail w) j) (mono f (w 0) 0 j)
    back zero =
        solve (ring_laws k) (p 0 ∷ a ∷ w 1 ∷ []) (v 0) ((v 1 ⊗ v 2) ⊕ (v 0 ⊕ (v 1 ⊗ v 2))) refl
        ∙ sym (ap₂ f.add (linear_zero k a (tail w)) (mono_same k (w 0) 0 ∙ h 0))
    back (suc j) =
        solve (ring_laws k) (p (suc j) ∷ a ∷ w (suc (suc j)) ∷ []) (v 0) (((v 0 ⊕ (v 1 ⊗ v 2)) ⊕ (v 1 ⊗ v 2)) ⊕ o) refl
        ∙ sym (ap₂ f.add (linear_suc k a (tail w) j ∙ ap (λ (x : A). f.add x (f.mul a (w (suc (suc j))))) (h (suc j))) (mono_other k (w 0) 0 (suc j) (omega arith)))

  module _ {m : ℕ} (pl : Places A m) (z : pl.at 0 ≡ f.zero) where
    -- the value of what stands from place n on
    pub value_past : (g : List ℕ) (a : A) (n : ℕ) → length g ≤ n → value f pl (drop n g) a ≡ f.zero
    unfolding value
    value_past g a n h = ap (λ (l : List ℕ). eval f (map pl.at l) a) (drop_of_length-le g {i = n} h)

    inside : (g : List ℕ) (a : A) (n : ℕ) → n < length g → value f pl (drop n g) a ≡ f.add (coefs pl g n) (f.mul a (value f pl (drop (suc n) g) a))
    unfolding value coefs
    inside g a n l = ap (λ (q : List ℕ). eval f (map pl.at q) a) (drop-cons g n 0 l)

    pub value_step : (g : List ℕ) (a : A) (n : ℕ) → value f pl (drop n g) a ≡ f.add (coefs pl g n) (f.mul a (value f pl (drop (suc n) g) a))
    value_step g a n = elim (dec_lt n (length g)) [
      | yes l ↦ inside g a n l
      | no l ↦
          value_past g a n (omega arith) ∙ sym (zero_add (ring_laws k) f.zero)
          ∙ sym (ap₂ f.add (below_list k pl z g n (omega arith)) (ap (f.mul a) (value_past g a (suc n) (omega arith)) ∙ mul_zero (ring_laws k) a))
    ]

    -- the same with what is read there, at the place before n as a loop that counts down has it
    pub value_read : (g : List ℕ) (a : A) (n : ℕ) → 0 < n → value f pl (drop (n - 1 + 1) g) a ≡ f.add (pl.at (get_or g (n - 1 + 1) 0)) (f.mul a (value f pl (drop (n + 1) g) a))
    value_read g a n h =
        let next : suc (n - 1 + 1) ≡ n + 1 = omega arith in
        value_step g a (n - 1 + 1) ∙ ap₂ f.add (coefs_at k pl g (n - 1 + 1)) (ap (λ (i : ℕ). f.mul a (value f pl (drop i g) a)) next)

    pub over_value : (t r : ℕ) (g : List ℕ) (a : A) → length g ≡ t + 1 → value f pl (drop (r + 1) g) a ≡ over_coefficient f t (coefs pl g) a r
    unfolding value
    over_value t r g a e =
        let l = map pl.at (drop (r + 1) g) in
        let long : length l ≡ t - r = length-map (drop (r + 1) g) pl.at ∙ length-drop (r + 1) g ∙ omega arith in
        eval_is_sum l a
        ∙ ap (λ (n : ℕ). sum_to f n (λ c. f.mul (ser (ring_of f) l c) (power f a c))) long
        ∙ sum_same (t - r) (λ c. f.mul (ser (ring_of f) l c) (power f a c)) (λ c. f.mul (coefs pl g (r + 1 + c)) (power f a c))
        (λ c. ap (λ (x : A). f.mul x (power f a c))
        (ap (λ (p : Series A). p c) (coefs_map k pl z (drop (r + 1) g)) ∙ coefs_at k pl (drop (r + 1) g) c
        ∙ ap pl.at (get_or-drop (r + 1) g c 0) ∙ sym (coefs_at k pl g (r + 1 + c))))

    -- a coefficient that is scaled
    pub scaled_at :
        (q col : List ℕ) (e w : A) (r : ℕ) → Placed m col → coefs pl col ≡ (poly f).mul (mono f e 0) (coefs pl q) → get_or q r 0 ≡ pl.num w
        → get_or col r 0 ≡ pl.num (f.mul e w)
    scaled_at q col e w r placed is was =
        sym (pl.num_at (get_or col r 0) (placed r))
        ∙ ap pl.num
        (sym (coefs_at k pl col r) ∙ ap (λ (p : Series A). p r) is ∙ mono_high k e 0 (coefs pl q) r r (omega arith)
        ∙ ap (f.mul e) (coefs_at k pl q r ∙ ap pl.at was ∙ pl.at_num w))

    module _ (t : ℕ) (g col : List ℕ) (a e : A) (long : length g ≡ t + 1) (pos : 1 ≤ t) (long-col : length col ≡ t)
        (got : (r : ℕ) → r < t → get_or col r 0 ≡ pl.num (f.mul e (value f pl (drop (r + 1) g) a)))
        (off : value f pl g a ≡ f.zero → ⊥) (e-is : e ≡ f.inv (value f pl g a)) where
      steps : Series A
      steps n = value f pl (drop n g) a

      whole_is : coefs pl g ≡ (poly f).add ((poly f).mul (linear f a) (tail steps)) (mono f (value f pl g a) 0)
      unfolding steps
      whole_is = whole (coefs pl g) steps a (value_step g a)

      column_at : (r : ℕ) → coefs pl col r ≡ f.mul e (steps (suc r))
      unfolding steps
      column_at r = elim (dec_lt r t) [
        | yes l ↦ coefs_at k pl col r ∙ ap pl.at (got r l) ∙ pl.at_num (f.mul e (value f pl (drop (r + 1) g) a)) ∙ ap (λ (n : ℕ). f.mul e (value f pl (drop n g) a)) (add-one r)
        | no l ↦ below_list k pl z col r (omega arith) ∙ sym (ap (f.mul e) (value_past g a (suc r) (omega arith)) ∙ mul_zero (ring_laws k) e)
      ]

      scaled : coefs pl col ≡ (poly f).mul (mono f e 0) (tail steps)
      scaled = fun_ext (λ r. column_at r ∙ sym (mono_high k e 0 (tail steps) r r (omega arith)))

      inverse_is : Inverse f t (coefs pl g) (linear f a) (coefs pl col)
      inverse_is =
          let M = mono f e 0 in
          let N = mono f (value f pl g a) 0 in
          let Q = tail steps in
          let L = linear f a in
          let back : f.mul e (value f pl g a) ≡ f.one = ap (λ (x : A). f.mul x (value f pl g a)) e-is ∙ k.mul_comm (f.inv (value f pl g a)) (value f pl g a) ∙ k.mul_inv (value f pl g a) off in
          let x₁ = whole_is in
          let x₂ : (poly f).mul M N ≡ (poly f).one = mono_mul k e (value f pl g a) 0 0 ∙ ap (λ (w : A). mono f w 0) back ∙ one_mono k in
          let x₃ = scaled in
          let s = solve (poly_laws k) (M ∷ L ∷ Q ∷ N ∷ []) (v 0 ⊗ v 3) ((v 0 ⊗ ((v 1 ⊗ v 2) ⊕ v 3)) ⊕ ((v 0 ⊗ v 2) ⊗ v 1)) refl in
          record {
            short = λ j h. below_list k pl z col j (omega arith);
            other = M;
            short_other = λ j h. mono_other k e 0 j (omega arith);
            one = cc;
          }

      product_is : (r : ℕ) → coefs pl col r ≡ f.mul (over_coefficient f t (coefs pl g) a r) (f.inv (value f pl g a))
      unfolding steps
      product_is r =
          column_at r ∙ k.mul_comm e (steps (suc r))
          ∙ ap₂ f.mul (ap (λ (n : ℕ). value f pl (drop n g) a) (sym (add-one r)) ∙ over_value t r g a long) e-is

      pub column_is : Column f pl t g a col
      column_is = record {
        off = off;
        inverse = inverse_is;
        unique = λ d p h. one_inverse k t (coefs pl g) (linear f a) p (coefs pl col) d h inverse_is;
        product = λ r h. product_is r;
        written = all_written pl col t (λ r. f.mul e (value f pl (drop (r + 1) g) a)) long-col got;
      }

-- what a step of the quotient takes: the value of what stands from a place on, and a write
pub ruleset quotient_steps = (value_read, get_or-set_at, get_or-set_other)
