-- Division, the greatest common divisor and the inverse have one result each.
use Rattle.std.proofs.Common.{◌≡◌, ℕ, zero, suc, ◌+◌, ◌≤◌, [], ◌∷◌, sym, refl, ap, ◌∙◌, subst, ap₂, arith}
use mathlib.Core.Path.{fun_ext}
use native.Mathlib.Decide.{dec_le}
use Rattle.algebra.specs.Field.{Ops, Laws}
use Rattle.algebra.specs.Ring.{ring_of}
use Rattle.algebra.specs.Series.{Series, tail, times, Below, Degree}
use Rattle.algebra.proofs.Rings.{ring_laws, mul_zero, zero_mul, zero_add}
use Rattle.algebra.proofs.Solve.{v, i, ◌⊕◌, ◌⊗◌, solve}
use Rattle.polys.specs.Coefs.{poly, OneDivision}
use Rattle.polys.specs.Euclid.{Gcd, OneGcd, OneInverse}
use Rattle.polys.proofs.Terms.{poly_laws, at_add, at_zero, below_add, below_less}
use Rattle.polys.proofs.Rule.{none_times, below_mul}

module _ {A : Type 0} {f : Ops A} (k : Laws f) where
  top_times : (a b : ℕ) (p q : Series A) (n : ℕ) → Below f (suc a) p → Below f (suc b) q → n ≡ a + b → times (ring_of f) p q n ≡ f.mul (p a) (q b)
  top_times a b p q zero u w e =
      let x : 0 ≡ a = omega arith in
      let y : 0 ≡ b = omega arith in
      ap₂ (λ s t. f.mul (p s) (q t)) x y
  top_times zero b p q (suc n) u w e =
      let y : suc n ≡ b = omega arith in
      ap₂ f.add (ap (λ t. f.mul (p 0) (q t)) y) (none_times k (tail p) q n (λ j h. u (suc j) (omega arith))) ∙ k.add_zero (f.mul (p 0) (q b))
  top_times (suc a) b p q (suc n) u w e =
      ap₂ f.add (ap (f.mul (p 0)) (w (suc n) (omega arith)) ∙ mul_zero (ring_laws k) (p 0)) (top_times a b (tail p) q n (λ j h. u (suc j) (omega arith)) w (omega arith))
      ∙ zero_add (ring_laws k) (f.mul (p (suc a)) (q b))

  pub top_mul : (a b : ℕ) (p q : Series A) → Below f (suc a) p → Below f (suc b) q → (poly f).mul p q (a + b) ≡ f.mul (p a) (q b)
  unfolding poly
  top_mul a b p q u w = top_times a b p q (a + b) u w refl

  pub no_divisors : (x y : A) → (y ≡ f.zero → ⊥) → f.mul x y ≡ f.zero → x ≡ f.zero
  no_divisors x y n e =
      sym (k.mul_one x) ∙ ap (f.mul x) (sym (k.mul_inv y n)) ∙ sym (k.mul_assoc x y (f.inv y)) ∙ ap (λ (w : A). f.mul w (f.inv y)) e ∙ zero_mul (ring_laws k) (f.inv y)

  -- a multiple of d below d's degree is zero
  no_multiple : (n m : ℕ) (u d : Series A) → Degree f n d → Below f m u → Below f n ((poly f).mul u d) → Below f 0 u
  no_multiple n zero u d g w h = w
  no_multiple n (suc m) u d g w h =
      let z : u m ≡ f.zero = no_divisors (u m) (d n) g.0 (sym (top_mul m n u d w g.1) ∙ h (m + n) (omega arith)) in
      no_multiple n m u d g (below_less k m u (λ j l. w j (omega arith)) z) h

  same : (p q : Series A) → (poly f).add p q ≡ (poly f).zero → p ≡ q
  same p q e =
      let x = solve (poly_laws k) (p ∷ q ∷ []) (v 0) ((v 0 ⊕ v 1) ⊕ v 1) refl in
      let y = zero_add (poly_laws k) q in
      cc

  pub one_division : OneDivision f
  one_division n m p d q r q' r' u u' x y =
      let e₁ = x.whole in
      let e₂ = y.whole in
      let s₁ = solve (poly_laws k) (q ∷ q' ∷ d ∷ r ∷ r' ∷ []) ((v 0 ⊕ v 1) ⊗ v 2) ((((v 0 ⊗ v 2) ⊕ v 3) ⊕ ((v 1 ⊗ v 2) ⊕ v 4)) ⊕ (v 3 ⊕ v 4)) refl in
      let s₂ = solve (poly_laws k) (p ∷ r ∷ r' ∷ []) ((v 0 ⊕ v 0) ⊕ (v 1 ⊕ v 2)) (v 1 ⊕ v 2) refl in
      let is : (poly f).mul ((poly f).add q q') d ≡ (poly f).add r r' = cc in
      let less : Below f n ((poly f).mul ((poly f).add q q') d) = subst (λ (w : Series A). Below f n w) (sym is) (below_add k n r r' x.rest y.rest) in
      let none : (poly f).add q q' ≡ (poly f).zero = fun_ext (λ j. no_multiple n m ((poly f).add q q') d x.degree (below_add k m q q' u u') less j (omega arith) ∙ sym (at_zero k j)) in
      let s₃ = zero_mul (poly_laws k) d in
      (same q q' none, same r r' (cc))

  -- a multiple u·d below d's degree, and u some sum of products of short factors, is zero
  none : (n m : ℕ) (u d w : Series A) → Degree f n d → Below f m u → w ≡ (poly f).mul u d → Below f n w → w ≡ (poly f).zero
  none n m u d w g short is less =
      let zero-u : u ≡ (poly f).zero = fun_ext (λ j. no_multiple n m u d g short (subst (λ (x : Series A). Below f n x) is less) j (omega arith) ∙ sym (at_zero k j)) in
      let s = zero_mul (poly_laws k) d in
      cc

  -- a·b + c·d, of factors below X^(m + 1)
  below_two : (m : ℕ) (a b c d : Series A) → Below f (suc m) a → Below f (suc m) b → Below f (suc m) c → Below f (suc m) d
      → Below f (m + suc m) ((poly f).add ((poly f).mul a b) ((poly f).mul c d))
  below_two m a b c d ha hb hc hd = below_add k (m + suc m) ((poly f).mul a b) ((poly f).mul c d) (below_mul k m (suc m) a b ha hb) (below_mul k m (suc m) c d hc hd)

  one_below : (m : ℕ) → Below f (suc m) (poly f).one
  unfolding poly
  one_below m zero h = absurd (omega arith)
  one_below m (suc j) h = refl

  module _ (t n n' : ℕ) (p q g g' : Series A) (x : Gcd f t n p q g) (y : Gcd f t n' p q g') where
    factor : Series A
    factor = (poly f).add ((poly f).mul y.p_part x.p_over) ((poly f).mul y.q_part x.q_over)

    short : Below f (t + suc t) factor
    unfolding factor
    short =
        below_two t y.p_part x.p_over y.q_part x.q_over
        (λ j h. y.short_p_part j (omega arith)) (λ j h. x.short_p_over j (omega arith))
        (λ j h. y.short_q_part j (omega arith)) (λ j h. x.short_q_over j (omega arith))

    multiple : g' ≡ (poly f).mul factor g
    unfolding factor
    multiple =
        let e₁ = y.sum in
        let e₂ = x.p_is in
        let e₃ = x.q_is in
        let s = solve (poly_laws k) (y.p_part ∷ x.p_over ∷ y.q_part ∷ x.q_over ∷ g ∷ [])
        ((v 0 ⊗ (v 1 ⊗ v 4)) ⊕ (v 2 ⊗ (v 3 ⊗ v 4))) (((v 0 ⊗ v 1) ⊕ (v 2 ⊗ v 3)) ⊗ v 4) refl in
        cc

    degree_g : Degree f n g
    degree_g = (λ e. k.one_zero (sym x.top ∙ e), x.under)

    -- where the degree of g is not the lower one
    pub lower : n' ≤ n → g ≡ g'
    lower le = elim (dec_le n n') [
      | yes eq ↦
          let s = solve (poly_laws k) (g ∷ factor ∷ []) (v 0 ⊕ (v 1 ⊗ v 0)) ((i ⊕ v 1) ⊗ v 0) refl in
          let e = multiple in
          let is : (poly f).add g g' ≡ (poly f).mul ((poly f).add (poly f).one factor) g = cc in
          let same-top : n' ≡ n = omega arith in
          let less : Below f n ((poly f).add g g') =
          below_less k n ((poly f).add g g')
          (below_add k (n + 1) g g' (λ j h. x.under j (omega arith)) (λ j h. y.under j (omega arith)))
          (at_add k g g' n ∙ ap₂ f.add x.top (ap g' (sym same-top) ∙ y.top) ∙ k.add_self f.one)
          in
          same g g' (none n (suc (t + suc t)) ((poly f).add (poly f).one factor) g ((poly f).add g g') degree_g
          (below_add k (suc (t + suc t)) (poly f).one factor (one_below (t + suc t)) (λ j h. short j (omega arith))) is less)
      | no gt ↦
          let z : g' ≡ (poly f).zero = none n (t + suc t) factor g g' degree_g short multiple (λ j h. y.under j (omega arith)) in
          absurd (k.one_zero (sym y.top ∙ ap (λ (w : Series A). w n') z ∙ at_zero k n'))
    ]

  pub one_gcd : OneGcd f
  one_gcd t n n' p q g g' x y = elim (dec_le n' n) [
    | yes le ↦ lower t n n' p q g g' x y le
    | no gt ↦ sym (lower t n' n p q g' g y x (omega arith))
  ]

  pub one_inverse : OneInverse f
  one_inverse t p q b b' d x y =
      let e₁ = x.one in
      let e₂ = y.one in
      let o₁ = x.other in
      let o₂ = y.other in
      let w = (poly f).add b b' in
      let u = (poly f).add ((poly f).mul b o₂) ((poly f).mul b' o₁) in
      let s₁ = solve (poly_laws k) (b ∷ b' ∷ []) (v 0 ⊕ v 1) ((v 0 ⊗ i) ⊕ (v 1 ⊗ i)) refl in
      let s₂ = solve (poly_laws k) (b ∷ b' ∷ o₁ ∷ o₂ ∷ p ∷ q ∷ [])
      ((v 0 ⊗ ((v 3 ⊗ v 4) ⊕ (v 1 ⊗ v 5))) ⊕ (v 1 ⊗ ((v 2 ⊗ v 4) ⊕ (v 0 ⊗ v 5))))
      (((v 0 ⊗ v 3) ⊕ (v 1 ⊗ v 2)) ⊗ v 4) refl in
      let is : w ≡ (poly f).mul u p = cc in
      same b b' (none t (t + suc t) u p w d
      (below_two t b o₂ b' o₁
      (λ j h. x.short j (omega arith)) (λ j h. y.short_other j (omega arith))
      (λ j h. y.short j (omega arith)) (λ j h. x.short_other j (omega arith)))
      is (below_add k t b b' x.short y.short))
