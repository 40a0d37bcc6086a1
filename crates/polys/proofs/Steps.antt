-- One turn of each loop.
use Rattle.std.proofs.Common.{◌≡◌, ℕ, suc, ◌+◌, ◌-◌, ◌<◌, ◌≤◌, List, [], ◌∷◌, length, get_or, take, set, replicate, sym, refl, ap, ◌∙◌, arith}
use mathlib.Core.Path.{fun_ext}
use native.Mathlib.Decide.{dec_lt}
use Rattle.algebra.specs.Field.{Ops, Laws, Places}
use Rattle.algebra.specs.Series.{Series, Below, Degree}
use Rattle.algebra.proofs.Rings.{ring_laws, mul_zero, zero_mul}
use Rattle.algebra.proofs.Solve.{v, o, ◌⊕◌, ◌⊗◌, solve}
use Rattle.polys.specs.Coefs.{poly, coefs, mono, Lead}
use Rattle.polys.proofs.Terms.{poly_laws, at_add, at_zero, mono_high, mono_mul, below_add, below_mono, below_less}
use Rattle.polys.proofs.Lists.{write_add, coefs_at, coefs_none, coefs_zeros, take_more, below_list}

module _ {A : Type 0} {f : Ops A} (k : Laws f) {m : ℕ} (pl : Places A m) (z : pl.at 0 ≡ f.zero) where
  pub zero_below : (p : Series A) → Below f 0 p → p ≡ (poly f).zero
  zero_below p u = fun_ext (λ j. u j (omega arith) ∙ sym (at_zero k j))

  pub scaled_none : (p m : Series A) → p ≡ (poly f).add p ((poly f).mul m (coefs pl []))
  scaled_none p m = let e = coefs_none k pl z in let s = solve (poly_laws k) (p ∷ m ∷ []) (v 0) (v 0 ⊕ (v 1 ⊗ o)) refl in cc

  pub multiple_more : (into l p : List ℕ) (c : A) (j w : ℕ) → j < length l → w ≡ pl.num (f.add (pl.at (get_or l j 0)) (f.mul c (pl.at (get_or p j 0))))
      → coefs pl l ≡ (poly f).add (coefs pl into) ((poly f).mul (mono f c 0) (coefs pl (take j p)))
      → coefs pl (set l j w) ≡ (poly f).add (coefs pl into) ((poly f).mul (mono f c 0) (coefs pl (take (j + 1) p)))
  multiple_more into l p c j w h e inv =
      let a = pl.at (get_or p j 0) in
      let e₁ = write_add k pl l j w (f.mul c a) h e in
      let y : 0 + j ≡ j = omega arith in
      let e₂ : (poly f).mul (mono f c 0) (mono f a j) ≡ mono f (f.mul c a) j = mono_mul k c a 0 j ∙ ap (mono f (f.mul c a)) y in
      let e₃ = take_more k pl z p j in
      let e₄ = solve (poly_laws k) (coefs pl into ∷ mono f c 0 ∷ coefs pl (take j p) ∷ mono f a j ∷ []) ((v 0 ⊕ (v 1 ⊗ v 2)) ⊕ (v 1 ⊗ v 3)) (v 0 ⊕ (v 1 ⊗ (v 2 ⊕ v 3))) refl in
      cc

  pub added_none : (p : Series A) → p ≡ (poly f).add p (coefs pl [])
  added_none p = let e = coefs_none k pl z in let s = solve (poly_laws k) (p ∷ []) (v 0) (v 0 ⊕ o) refl in cc

  pub added_more : (into l p : List ℕ) (j w : ℕ) → j < length l → w ≡ pl.num (f.add (pl.at (get_or l j 0)) (pl.at (get_or p j 0)))
      → coefs pl l ≡ (poly f).add (coefs pl into) (coefs pl (take j p))
      → coefs pl (set l j w) ≡ (poly f).add (coefs pl into) (coefs pl (take (j + 1) p))
  added_more into l p j w h e inv =
      let a = pl.at (get_or p j 0) in
      let e₁ = write_add k pl l j w a h e in
      let e₂ = take_more k pl z p j in
      let e₃ = solve (poly_laws k) (coefs pl into ∷ coefs pl (take j p) ∷ mono f a j ∷ []) ((v 0 ⊕ v 1) ⊕ v 2) (v 0 ⊕ (v 1 ⊕ v 2)) refl in
      cc

  pub product_none : (n : ℕ) (q : Series A) → coefs pl (replicate n 0) ≡ (poly f).mul (coefs pl []) q
  product_none n q = let e₁ = coefs_zeros k pl z n in let e₂ = coefs_none k pl z in let e₃ = zero_mul (poly_laws k) q in cc

  pub product_more : (p : List ℕ) (q r s : Series A) (j : ℕ) (a : A) → a ≡ pl.at (get_or p j 0) → r ≡ (poly f).mul (coefs pl (take j p)) q → s ≡ (poly f).add r ((poly f).mul (mono f a j) q)
      → s ≡ (poly f).mul (coefs pl (take (j + 1) p)) q
  product_more p q r s j a read inv e =
      let e₁ = take_more k pl z p j in
      let e₂ = solve (poly_laws k) (coefs pl (take j p) ∷ q ∷ mono f a j ∷ []) ((v 0 ⊗ v 1) ⊕ (v 2 ⊗ v 1)) ((v 0 ⊕ v 2) ⊗ v 1) refl in
      cc

  -- the term c·X^(j - n)·d takes the highest coefficient of r away
  pub drop_top : (r d : Series A) (n j : ℕ) (e c : A) → Lead f n e d → Below f (suc j) r → n ≤ j → c ≡ f.mul (r j) e → Below f j ((poly f).add r ((poly f).mul (mono f c (j - n)) d))
  drop_top r d n j e c lead u h read =
      below_less k j ((poly f).add r ((poly f).mul (mono f c (j - n)) d))
      (below_add k (j + 1) r ((poly f).mul (mono f c (j - n)) d) (λ x l. u x (omega arith)) (λ x l. below_mono k c (j - n) (suc n) d lead.under x (omega arith)))
      (at_add k r ((poly f).mul (mono f c (j - n)) d) j
      ∙ ap (f.add (r j)) (mono_high k c (j - n) d n j (omega arith) ∙ ap (λ (x : A). f.mul x (d n)) read
      ∙ solve (ring_laws k) (r j ∷ e ∷ d n ∷ []) ((v 0 ⊗ v 1) ⊗ v 2) (v 0 ⊗ (v 2 ⊗ v 1)) refl
      ∙ ap (f.mul (r j)) lead.top ∙ k.mul_one (r j))
      ∙ k.add_self (r j))

  pub divide_more : (p q r d m q' r' : Series A) → p ≡ (poly f).add ((poly f).mul q d) r → q' ≡ (poly f).add q m → r' ≡ (poly f).add r ((poly f).mul m d) → p ≡ (poly f).add ((poly f).mul q' d) r'
  divide_more p q r d m q' r' e e₁ e₂ =
      let s = solve (poly_laws k) (q ∷ d ∷ r ∷ m ∷ []) ((v 0 ⊗ v 1) ⊕ v 2) (((v 0 ⊕ v 3) ⊗ v 1) ⊕ (v 2 ⊕ (v 3 ⊗ v 1))) refl in
      cc

  pub lead_degree : (n : ℕ) (e : A) (d : Series A) → Lead f n e d → Degree f n d
  lead_degree n e d l = (λ w. k.one_zero (sym l.top ∙ ap (λ (x : A). f.mul x e) w ∙ zero_mul (ring_laws k) e), l.under)

  pub scaled_all : (p q : List ℕ) (c : A) → length q ≡ length p → ((j : ℕ) → j < length p → get_or q j 0 ≡ pl.num (f.mul c (pl.at (get_or p j 0)))) → coefs pl q ≡ (poly f).mul (mono f c 0) (coefs pl p)
  scaled_all p q c e h = fun_ext (λ j. elim (dec_lt j (length p)) [
    | yes l ↦ coefs_at k pl q j ∙ ap pl.at (h j l) ∙ pl.at_num (f.mul c (pl.at (get_or p j 0))) ∙ sym (mono_high k c 0 (coefs pl p) j j (omega arith) ∙ ap (f.mul c) (coefs_at k pl p j))
    | no l ↦ below_list k pl z q j (omega arith) ∙ sym (mono_high k c 0 (coefs pl p) j j (omega arith) ∙ ap (f.mul c) (below_list k pl z p j (omega arith)) ∙ mul_zero (ring_laws k) c)
  ])
