-- The polynomial in a list: after a write, of its first coefficients, and of zeros.
use Rattle.std.proofs.Common.{◌≡◌, ℕ, zero, suc, ◌+◌, ◌<◌, ◌≤◌, ◌≢◌, List, [], ◌∷◌, map, length, get_or, take, set, replicate, sym, refl, ap, ◌∙◌, subst, ap₂, arith, length-take, get_or-set_other, get_or-take, get_or-set_same}
use mathlib.Core.Path.{fun_ext}
use native.Mathlib.Decide.{dec_le, dec_lt}
use Rattle.std.proofs.lemmas.List.{get_or_past}
use Rattle.algebra.specs.Field.{Ops, Laws, Places}
use Rattle.algebra.specs.Ring.{ring_of}
use Rattle.algebra.specs.Series.{ser, Below}
use Rattle.algebra.proofs.Rings.{ring_laws, zero_add}
use Rattle.polys.specs.Coefs.{poly, coefs, mono}
use Rattle.polys.proofs.Terms.{at_add, at_zero, mono_same, mono_other}

pub get_d_zeros : (n i : ℕ) → get_or {A = ℕ} (replicate n 0) i 0 ≡ 0
get_d_zeros zero i = refl
get_d_zeros (suc n) zero = refl
get_d_zeros (suc n) (suc i) = get_d_zeros n i

module _ {A : Type 0} {f : Ops A} (k : Laws f) {m : ℕ} (pl : Places A m) where
  pub coefs_at : (l : List ℕ) (i : ℕ) → coefs pl l i ≡ pl.at (get_or l i 0)
  unfolding coefs
  coefs_at l i = refl

  -- the write adds y at i
  pub write_add : (l : List ℕ) (i w : ℕ) (y : A) → i < length l → w ≡ pl.num (f.add (pl.at (get_or l i 0)) y) → coefs pl (set l i w) ≡ (poly f).add (coefs pl l) (mono f y i)
  unfolding coefs
  write_add l i w y h e = fun_ext (λ j. sym (at_add k (coefs pl l) (mono f y i) j ∙ elim (dec_le i j) [
    | yes a ↦ elim (dec_le j i) [
      | yes b ↦
          let s : i ≡ j = omega arith in
          subst (λ (x : ℕ). f.add (pl.at (get_or l x 0)) (mono f y i x) ≡ pl.at (get_or (set l i w) x 0)) s
          (ap (f.add (pl.at (get_or l i 0))) (mono_same k y i) ∙ sym (ap pl.at (get_or-set_same l i w 0 h ∙ e) ∙ pl.at_num (f.add (pl.at (get_or l i 0)) y)))
      | no b ↦ let n : j ≢ i = omega arith in ap (f.add (pl.at (get_or l j 0))) (mono_other k y i j n) ∙ k.add_zero (pl.at (get_or l j 0)) ∙ ap pl.at (sym (get_or-set_other l i j w 0 n))
    ]
    | no a ↦ let n : j ≢ i = omega arith in ap (f.add (pl.at (get_or l j 0))) (mono_other k y i j n) ∙ k.add_zero (pl.at (get_or l j 0)) ∙ ap pl.at (sym (get_or-set_other l i j w 0 n))
  ]))

  module _ (z : pl.at 0 ≡ f.zero) where
    -- where 0 stood
    pub write_new : (l : List ℕ) (i w : ℕ) (y : A) → i < length l → get_or l i 0 ≡ 0 → w ≡ pl.num y → coefs pl (set l i w) ≡ (poly f).add (coefs pl l) (mono f y i)
    write_new l i w y h g e = write_add l i w y h (e ∙ ap pl.num (sym (ap (λ (x : ℕ). f.add (pl.at x) y) g ∙ ap (λ (x : A). f.add x y) z ∙ zero_add (ring_laws k) y)))

    pub coefs_none : coefs pl [] ≡ (poly f).zero
    unfolding coefs
    coefs_none = fun_ext (λ i. z ∙ sym (at_zero k i))

    pub coefs_zeros : (n : ℕ) → coefs pl (replicate n 0) ≡ (poly f).zero
    unfolding coefs
    coefs_zeros n = fun_ext (λ i. ap pl.at (get_d_zeros n i) ∙ z ∙ sym (at_zero k i))

    pub below_list : (l : List ℕ) → Below f (length l) (coefs pl l)
    unfolding coefs
    below_list l i h = ap pl.at (get_or_past l i 0 h) ∙ z

    past_take : (n : ℕ) (l : List ℕ) (j : ℕ) → n ≤ j → get_or (take n l) j 0 ≡ 0
    past_take n l j h = get_or_past (take n l) j 0 (omega (arith, length-take n l))

    -- one coefficient more
    pub take_more : (l : List ℕ) (i : ℕ) → coefs pl (take (i + 1) l) ≡ (poly f).add (coefs pl (take i l)) (mono f (pl.at (get_or l i 0)) i)
    unfolding coefs
    take_more l i = fun_ext (λ j. sym (at_add k (coefs pl (take i l)) (mono f (pl.at (get_or l i 0)) i) j ∙ elim (dec_lt j i) [
      | yes a ↦
          ap₂ f.add (ap pl.at (get_or-take i l j 0 a)) (mono_other k (pl.at (get_or l i 0)) i j (omega arith))
          ∙ k.add_zero (pl.at (get_or l j 0)) ∙ ap pl.at (sym (get_or-take (i + 1) l j 0 (omega arith)))
      | no a ↦ ap (λ (x : ℕ). f.add (pl.at x) (mono f (pl.at (get_or l i 0)) i j)) (past_take i l j (omega arith))
          ∙ ap (λ (x : A). f.add x (mono f (pl.at (get_or l i 0)) i j)) z ∙ zero_add (ring_laws k) (mono f (pl.at (get_or l i 0)) i j)
          ∙ elim (dec_le j i) [
            | yes b ↦
                let s : i ≡ j = omega arith in
                subst (λ (x : ℕ). mono f (pl.at (get_or l i 0)) i x ≡ pl.at (get_or (take (i + 1) l) x 0)) s
                (mono_same k (pl.at (get_or l i 0)) i ∙ ap pl.at (sym (get_or-take (i + 1) l i 0 (omega arith))))
            | no b ↦ mono_other k (pl.at (get_or l i 0)) i j (omega arith) ∙ sym z ∙ ap pl.at (sym (past_take (i + 1) l j (omega arith)))
          ]
    ]))

    -- the coefficients above are zero
    pub coefs_take : (l : List ℕ) (n : ℕ) → Below f n (coefs pl l) → coefs pl (take n l) ≡ coefs pl l
    unfolding coefs
    coefs_take l n u = fun_ext (λ j. elim (dec_lt j n) [
      | yes a ↦ ap pl.at (get_or-take n l j 0 a)
      | no a ↦ ap pl.at (past_take n l j (omega arith)) ∙ z ∙ sym (u j (omega arith))
    ])

    -- the same polynomial as a list of elements
    pub coefs_map : (l : List ℕ) → ser (ring_of f) (map pl.at l) ≡ coefs pl l
    unfolding coefs
    coefs_map l = fun_ext (λ i. at_map l i) where
      at_map : (l : List ℕ) (i : ℕ) → get_or (map pl.at l) i f.zero ≡ pl.at (get_or l i 0)
      at_map [] i = sym z
      at_map (x ∷ l) zero = refl
      at_map (x ∷ l) (suc i) = at_map l i
