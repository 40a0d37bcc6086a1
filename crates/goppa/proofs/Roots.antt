-- The product of the X - b over a list: it is monic, and its values are the products of the x - b.
use Rattle.std.proofs.Common.{◌≡◌, ℕ, zero, suc, ◌-◌, ◌<◌, ◌≤◌, List, [], ◌∷◌, ◌++◌, map, reverse, length, get_or, drop, sym, refl, ap, ◌∙◌, ap₂, inl, inr, arith, drop-cons}
use Rattle.std.proofs.lemmas.List.{reverse-append}
use mathlib.Core.Path.{fun_ext}
use lib.Seq.{drop-length}
use Rattle.std.proofs.lemmas.Bool.{cases_eq}
use Rattle.algebra.specs.Field.{Ops, Laws, Places}
use Rattle.algebra.specs.Ring.{ring_of}
use Rattle.algebra.specs.Poly.{eval}
use Rattle.algebra.specs.Series.{Series, ser, Below}
use Rattle.algebra.proofs.Rings.{ring_laws, zero_add, mul_zero, zero_mul}
use Rattle.algebra.proofs.Solve.{v, o, i, ◌⊕◌, ◌⊗◌, solve}
use Rattle.polys.specs.Coefs.{poly, coefs, mono}
use Rattle.polys.specs.Values.{value}
use Rattle.polys.proofs.Lists.{coefs_map}
use Rattle.algebra.proofs.Eval.{eval_same}
use Rattle.polys.proofs.Bridge.{front, ser_front, eval_times}
use Rattle.goppa.specs.Zeros.{linear, from_zeros, differences, Monic, Zeros}
use Rattle.goppa.proofs.Linear.{linear_suc, linear_below}

module _ {A : Type 0} {f : Ops A} (k : Laws f) where
  one_at : (poly f).one 0 ≡ f.one
  unfolding poly
  one_at = refl

  one_under : Below f 1 (poly f).one
  unfolding poly
  one_under zero h = absurd (omega arith)
  one_under (suc j) h = refl

  pub from_monic : (bs : List A) → Monic f (length bs) (from_zeros f bs)
  unfolding from_zeros
  from_monic [] = record { top = one_at; under = one_under }
  from_monic (b ∷ bs) =
      let old = from_monic bs in
      let p = from_zeros f bs in
      record {
        top =
            linear_suc k b p (length bs)
            ∙ ap₂ (λ (x y : A). f.add x (f.mul b y)) old.top (old.under (suc (length bs)) (omega arith))
            ∙ ap (f.add f.one) (mul_zero (ring_laws k) b) ∙ k.add_zero f.one;
        under = linear_below k b (suc (length bs)) p old.under;
      }

  one_list : (j : ℕ) → (poly f).one j ≡ ser (ring_of f) (f.one ∷ []) j
  unfolding poly
  one_list zero = refl
  one_list (suc j) = refl

  linear_list : (b : A) → ser (ring_of f) (b ∷ f.one ∷ []) ≡ linear f b
  unfolding linear poly mono
  linear_list b = fun_ext at where
    at : (j : ℕ) → ser (ring_of f) (b ∷ f.one ∷ []) j ≡ linear f b j
    at zero = sym (zero_add (ring_laws k) b)
    at (suc zero) = sym (k.add_zero f.one)
    at (suc (suc j)) = sym (k.add_zero f.zero)

  pub from_value : (bs l : List A) (x : A) → ser (ring_of f) l ≡ from_zeros f bs → eval f l x ≡ differences f bs x
  unfolding from_zeros
  from_value [] l x e =
      eval_same k l (f.one ∷ []) x (λ j. ap (λ (p : Series A). p j) e ∙ one_list j)
      ∙ solve (ring_laws k) (x ∷ []) (i ⊕ (v 0 ⊗ o)) i refl
  from_value (b ∷ bs) l x e =
      let r = front (suc (length bs)) (from_zeros f bs) in
      let er = ser_front k (suc (length bs)) (from_zeros f bs) (from_monic bs).under in
      let el = linear_list b in
      eval_times k l (b ∷ f.one ∷ []) r x (cc)
      ∙ ap₂ f.mul (solve (ring_laws k) (x ∷ b ∷ []) (v 1 ⊕ (v 0 ⊗ (i ⊕ (v 0 ⊗ o)))) (v 0 ⊕ v 1) refl) (from_value bs r x er)

  same : (x y : A) → f.add x y ≡ f.zero → x ≡ y
  same x y e = solve (ring_laws k) (x ∷ y ∷ []) (v 0) ((v 0 ⊕ v 1) ⊕ v 1) refl ∙ ap (λ (w : A). f.add w y) e ∙ zero_add (ring_laws k) y

  -- a factor that is not zero
  other_zero : (x y : A) → (x ≡ f.zero → ⊥) → f.mul x y ≡ f.zero → y ≡ f.zero
  other_zero x y n e =
      sym (k.mul_one y) ∙ ap (f.mul y) (sym (k.mul_inv x n))
      ∙ solve (ring_laws k) (x ∷ y ∷ f.inv x ∷ []) (v 1 ⊗ (v 0 ⊗ v 2)) ((v 0 ⊗ v 1) ⊗ v 2) refl
      ∙ ap (λ (w : A). f.mul w (f.inv x)) e ∙ zero_mul (ring_laws k) (f.inv x)

  module _ {m : ℕ} (pl : Places A m) (z : pl.at 0 ≡ f.zero) where
    -- one zero more, in front of those that a list has from the last on
    pub from_more : (seen : List ℕ) (b : ℕ) → from_zeros f (map pl.at (reverse (seen ++ b ∷ []))) ≡ (poly f).mul (linear f (pl.at b)) (from_zeros f (map pl.at (reverse seen)))
    unfolding from_zeros
    from_more seen b = ap (λ (l : List ℕ). from_zeros f (map pl.at l)) (reverse-append seen (b ∷ []))

    -- no zeros: the product is one
    pub from_none : (zs : List ℕ) → from_zeros f (map pl.at (drop (length zs) zs)) ≡ (poly f).one
    unfolding from_zeros
    from_none zs = ap (λ (l : List ℕ). from_zeros f (map pl.at l)) (drop-length zs)

    -- the zeros from place n - 1 of a list on: those from place n on, and one more
    pub from_more_at : (zs : List ℕ) (n : ℕ) → 0 < n → n ≤ length zs
        → from_zeros f (map pl.at (drop (n - 1) zs)) ≡ (poly f).mul (linear f (pl.at (get_or zs (n - 1) 0))) (from_zeros f (map pl.at (drop n zs)))
    unfolding from_zeros
    from_more_at zs n pos le =
        let lt : n - 1 < length zs = omega arith in
        let up : suc (n - 1) ≡ n = omega arith in
        ap (λ (l : List ℕ). from_zeros f (map pl.at l)) (drop-cons zs (n - 1) 0 lt)
        ∙ ap (λ (j : ℕ). (poly f).mul (linear f (pl.at (get_or zs (n - 1) 0))) (from_zeros f (map pl.at (drop j zs)))) up

    pub value_from : (g zs : List ℕ) → coefs pl g ≡ from_zeros f (map pl.at zs) → (x : A) → value f pl g x ≡ differences f (map pl.at zs) x
    unfolding value
    value_from g zs e x = from_value (map pl.at zs) (map pl.at g) x (coefs_map k pl z g ∙ e)

    each : (zs : List ℕ) (j : ℕ) → j < length zs → differences f (map pl.at zs) (pl.at (get_or zs j 0)) ≡ f.zero
    each [] j h = absurd (omega arith)
    each (b ∷ zs) zero h =
        ap (λ (w : A). f.mul w (differences f (map pl.at zs) (pl.at b))) (k.add_self (pl.at b)) ∙ zero_mul (ring_laws k) (differences f (map pl.at zs) (pl.at b))
    each (b ∷ zs) (suc j) h =
        ap (f.mul (f.add (pl.at (get_or zs j 0)) (pl.at b))) (each zs j (omega arith)) ∙ mul_zero (ring_laws k) (f.add (pl.at (get_or zs j 0)) (pl.at b))

    only : (zs : List ℕ) (x : A) → differences f (map pl.at zs) x ≡ f.zero → (j : ℕ) × (j < length zs) × (x ≡ pl.at (get_or zs j 0))
    only [] x e = absurd (k.one_zero e)
    only (b ∷ zs) x e =
        elim (cases_eq (pl.num x) (pl.num (pl.at b))) [
          | inl s ↦ (0, omega arith, sym (pl.at_num x) ∙ ap pl.at s ∙ pl.at_num (pl.at b))
          | inr d ↦
              let h = only zs x (other_zero (f.add x (pl.at b)) (differences f (map pl.at zs) x) (λ w. d (ap pl.num (same x (pl.at b) w))) e) in
              (suc h.0, omega (arith, h.1), h.2)
        ]

    pub zeros_are : (g zs : List ℕ) → coefs pl g ≡ from_zeros f (map pl.at zs) → Zeros f pl (value f pl g) zs
    zeros_are g zs e = record {
      each = λ j h. value_from g zs e (pl.at (get_or zs j 0)) ∙ each zs j h;
      only = λ x w. only zs x (sym (value_from g zs e x) ∙ w);
    }
