-- Euclid's rule: the start and a turn.
use Rattle.std.proofs.Common.{◌≡◌, ℕ, zero, suc, ◌+◌, ◌-◌, ◌<◌, ◌≤◌, [], ◌∷◌, sym, refl, ap, ◌∙◌, subst, ap₂, arith}
use mathlib.Core.Path.{fun_ext}
use native.Mathlib.Decide.{dec_lt, dec_le}
use Rattle.algebra.specs.Field.{Ops, Laws}
use Rattle.algebra.specs.Ring.{ring_of}
use Rattle.algebra.specs.Series.{Series, tail, times, Below, Degree}
use Rattle.algebra.proofs.Rings.{ring_laws, mul_zero, zero_mul, zero_add}
use Rattle.algebra.proofs.Solve.{v, o, i, ◌⊕◌, ◌⊗◌, solve}
use Rattle.polys.specs.Coefs.{poly, mono, Lead}
use Rattle.polys.specs.Euclid.{Reduced, Euclid, Gcd, Inverse, Shared}
use Rattle.polys.proofs.Terms.{poly_laws, at_zero, mono_same, mono_other, mono_high, mono_mul, below_add, below_mono}

module _ {A : Type 0} {f : Ops A} (k : Laws f) where
  pub none_times : (p q : Series A) (n : ℕ) → Below f 0 p → times (ring_of f) p q n ≡ f.zero
  none_times p q zero u = ap (λ (x : A). f.mul x (q 0)) (u 0 (omega arith)) ∙ zero_mul (ring_laws k) (q 0)
  none_times p q (suc n) u =
      ap₂ f.add (ap (λ (x : A). f.mul x (q (suc n))) (u 0 (omega arith)) ∙ zero_mul (ring_laws k) (q (suc n))) (none_times (tail p) q n (λ j h. u (suc j) (omega arith)))
      ∙ k.add_zero f.zero

  times_under : (a b : ℕ) (p q : Series A) (n : ℕ) → Below f (suc a) p → Below f b q → a + b ≤ n → times (ring_of f) p q n ≡ f.zero
  times_under a b p q zero u w h = ap (f.mul (p 0)) (w 0 (omega arith)) ∙ mul_zero (ring_laws k) (p 0)
  times_under zero b p q (suc n) u w h =
      ap₂ f.add (ap (f.mul (p 0)) (w (suc n) (omega arith)) ∙ mul_zero (ring_laws k) (p 0)) (none_times (tail p) q n (λ j h. u (suc j) (omega arith)))
      ∙ k.add_zero f.zero
  times_under (suc a) b p q (suc n) u w h =
      ap₂ f.add (ap (f.mul (p 0)) (w (suc n) (omega arith)) ∙ mul_zero (ring_laws k) (p 0)) (times_under a b (tail p) q n (λ j h. u (suc j) (omega arith)) w (omega arith))
      ∙ k.add_zero f.zero

  -- the bounds add, less one
  pub below_mul : (a b : ℕ) (p q : Series A) → Below f (suc a) p → Below f b q → Below f (a + b) ((poly f).mul p q)
  unfolding poly
  below_mul a b p q u w n h = times_under a b p q n u w h

  pub below_zero : (n : ℕ) → Below f n (poly f).zero
  below_zero n j h = at_zero k j

  at_one : (j : ℕ) → 1 ≤ j → (poly f).one j ≡ f.zero
  unfolding poly
  at_one zero h = absurd (omega arith)
  at_one (suc j) h = refl

  -- a degree lies below every bound
  pub degree_below : (n j : ℕ) (p : Series A) → Degree f j p → Below f n p → j < n
  degree_below n j p d u = elim (dec_lt j n) [ yes h ↦ h | no h ↦ absurd (d.0 (u j (omega arith))) ]

  pub reduced_none : (n : ℕ) (s r a b : Series A) → Reduced f n s r a b s a
  reduced_none n s r a b = record {
    multiple = (poly f).zero;
    short = below_zero n;
    reduced = solve (poly_laws k) (s ∷ r ∷ []) (v 0) (v 0 ⊕ (o ⊗ v 1)) refl;
    beside = solve (poly_laws k) (a ∷ b ∷ []) (v 0) (v 0 ⊕ (o ⊗ v 1)) refl;
  }

  more : (p q r m s t : Series A) → s ≡ (poly f).add p ((poly f).mul q r) → t ≡ (poly f).add s ((poly f).mul m r) → t ≡ (poly f).add p ((poly f).mul ((poly f).add q m) r)
  more p q r m s t e e₁ =
      let h = solve (poly_laws k) (p ∷ q ∷ r ∷ m ∷ []) ((v 0 ⊕ (v 1 ⊗ v 2)) ⊕ (v 3 ⊗ v 2)) (v 0 ⊕ ((v 1 ⊕ v 3) ⊗ v 2)) refl in
      cc

  pub reduced_more : (n : ℕ) (s r a b s' a' s'' a'' : Series A) (c : A) (j : ℕ) → j < n → Reduced f n s r a b s' a'
      → s'' ≡ (poly f).add s' ((poly f).mul (mono f c j) r) → a'' ≡ (poly f).add a' ((poly f).mul (mono f c j) b) → Reduced f n s r a b s'' a''
  reduced_more n s r a b s' a' s'' a'' c j h old e₁ e₂ = record {
    multiple = (poly f).add old.multiple (mono f c j);
    short = below_add k n old.multiple (mono f c j) old.short (λ x l. mono_other k c j x (omega arith));
    reduced = more s old.multiple r (mono f c j) s' s'' old.reduced e₁;
    beside = more a old.multiple b (mono f c j) a' a'' old.beside e₂;
  }

  pub euclid_none : (t : ℕ) (p q a b : Series A) → Degree f t p → Below f t q → a ≡ (poly f).zero → b ≡ (poly f).one → Euclid f t p q p q a b t
  euclid_none t p q a b d u e₁ e₂ =
      let z : Series A = (poly f).zero in
      let w : Series A = (poly f).one in
      let x₁ = solve (poly_laws k) (p ∷ q ∷ []) (v 0) ((i ⊗ v 0) ⊕ (o ⊗ v 1)) refl in
      let x₂ = solve (poly_laws k) (p ∷ q ∷ []) (v 1) ((o ⊗ v 0) ⊕ (i ⊗ v 1)) refl in
      record {
        c = (poly f).one;
        d = (poly f).zero;
        s_is = cc;
        r_is = cc;
        p_is = cc;
        q_is = cc;
        within = omega arith;
        degree = d;
        under = u;
        short_a = subst (λ (x : Series A). Below f (suc (t - t)) x) (sym e₁) (below_zero (suc (t - t)));
        short_b = subst (λ (x : Series A). Below f (suc (t - t)) x) (sym e₂) (λ j h. at_one j (omega arith));
        short_c = λ j h. at_one j (omega arith);
        short_d = below_zero (suc (t - t));
      }

  turned : (c d p q a b m s r x : Series A) → s ≡ (poly f).add ((poly f).mul c p) ((poly f).mul a q) → r ≡ (poly f).add ((poly f).mul d p) ((poly f).mul b q)
      → x ≡ (poly f).add s ((poly f).mul m r) → x ≡ (poly f).add ((poly f).mul ((poly f).add c ((poly f).mul m d)) p) ((poly f).mul ((poly f).add a ((poly f).mul m b)) q)
  turned c d p q a b m s r x e₁ e₂ e₃ =
      let h = solve (poly_laws k) (c ∷ d ∷ p ∷ q ∷ a ∷ b ∷ m ∷ []) (((v 0 ⊗ v 2) ⊕ (v 4 ⊗ v 3)) ⊕ (v 6 ⊗ ((v 1 ⊗ v 2) ⊕ (v 5 ⊗ v 3)))) (((v 0 ⊕ (v 6 ⊗ v 1)) ⊗ v 2) ⊕ ((v 4 ⊕ (v 6 ⊗ v 5)) ⊗ v 3)) refl in
      cc

  crossed : (p a b m s r x : Series A) → p ≡ (poly f).add ((poly f).mul b s) ((poly f).mul a r) → x ≡ (poly f).add s ((poly f).mul m r)
      → p ≡ (poly f).add ((poly f).mul ((poly f).add a ((poly f).mul m b)) r) ((poly f).mul b x)
  crossed p a b m s r x e₁ e₂ =
      let h = solve (poly_laws k) (a ∷ b ∷ m ∷ s ∷ r ∷ []) ((v 1 ⊗ v 3) ⊕ (v 0 ⊗ v 4)) (((v 0 ⊕ (v 2 ⊗ v 1)) ⊗ v 4) ⊕ (v 1 ⊗ (v 3 ⊕ (v 2 ⊗ v 4)))) refl in
      cc

  grown : (t n j : ℕ) (a b m : Series A) → j < n → n ≤ t → Below f (n + 1 - j) m → Below f (suc (t - n)) a → Below f (suc (t - n)) b → Below f (suc (t - j)) ((poly f).add a ((poly f).mul m b))
  grown t n j a b m less le short u w =
      below_add k (suc (t - j)) a ((poly f).mul m b) (λ x h. u x (omega arith))
      (λ x h. below_mul (n - j) (suc (t - n)) m b (λ y l. short y (omega arith)) w x (omega arith))

  pub euclid_more : (t : ℕ) (p q s r a b s' a' : Series A) (n j : ℕ) → Euclid f t p q s r a b n → Degree f j r → Reduced f (n + 1 - j) s r a b s' a' → Below f j s' → Euclid f t p q r s' b a' j
  euclid_more t p q s r a b s' a' n j old g got u =
      let m = got.multiple in
      let less : j < n = degree_below n j r g old.under in
      let le : n ≤ t = old.within in
      let e : a' ≡ (poly f).add a ((poly f).mul m b) = got.beside in
      record {
        c = old.d;
        d = (poly f).add old.c ((poly f).mul m old.d);
        s_is = old.r_is;
        r_is = subst (λ (x : Series A). s' ≡ (poly f).add ((poly f).mul ((poly f).add old.c ((poly f).mul m old.d)) p) ((poly f).mul x q)) (sym e) (turned old.c old.d p q a b m s r s' old.s_is old.r_is got.reduced);
        p_is = subst (λ (x : Series A). p ≡ (poly f).add ((poly f).mul x r) ((poly f).mul b s')) (sym e) (crossed p a b m s r s' old.p_is got.reduced);
        q_is = crossed q old.c old.d m s r s' old.q_is got.reduced;
        within = omega arith;
        degree = g;
        under = u;
        short_a = λ x h. old.short_b x (omega arith);
        short_b = subst (λ (x : Series A). Below f (suc (t - j)) x) (sym e) (grown t n j a b m less le got.short old.short_a old.short_b);
        short_c = λ x h. old.short_d x (omega arith);
        short_d = grown t n j old.c old.d m less le got.short old.short_c old.short_d;
      }

  mono_one : mono f f.one 0 ≡ (poly f).one
  unfolding mono poly
  mono_one = fun_ext one_at where
    one_at : (j : ℕ) → mono f f.one 0 j ≡ (poly f).one j
    one_at zero = refl
    one_at (suc j) = refl

  -- the factors at the start
  pub one_write : (x y : Series A) → x ≡ (poly f).zero → y ≡ (poly f).add x (mono f f.one 0) → y ≡ (poly f).one
  one_write x y e₁ e₂ = let h = mono_one in let w = zero_add (poly_laws k) (poly f).one in cc

  -- the two changed places
  pub euclid_swap : (t : ℕ) (p q s r a b s' r' a' b' : Series A) (n : ℕ) → s' ≡ s → r' ≡ r → a' ≡ a → b' ≡ b → Euclid f t p q s r a b n → Euclid f t p q s' r' a' b' n
  euclid_swap t p q s r a b s' r' a' b' n e₁ e₂ e₃ e₄ h =
      subst (λ (x : Series A). Euclid f t p q s' r' a' x n) (sym e₄) (subst (λ (x : Series A). Euclid f t p q s' r' x b n) (sym e₃) (subst (λ (x : Series A). Euclid f t p q s' x a b n) (sym e₂) (subst (λ (x : Series A). Euclid f t p q x r a b n) (sym e₁) h)))

  -- b is not zero: else p = a·r, below X^t
  pub factor : (t : ℕ) (p q s r a b : Series A) (n : ℕ) → Degree f t p → Euclid f t p q s r a b n → b ≡ (poly f).zero → ⊥
  factor t p q s r a b n g h e =
      let le : n ≤ t = h.within in
      let x = solve (poly_laws k) (s ∷ a ∷ r ∷ []) ((o ⊗ v 0) ⊕ (v 1 ⊗ v 2)) (v 1 ⊗ v 2) refl in
      let whole = h.p_is in
      let is : p ≡ (poly f).mul a r = cc in
      g.0 (ap (λ (w : Series A). w t) is ∙ below_mul (t - n) n a r h.short_a h.under t (omega arith))

  -- the last remainder that is not zero, made monic by e, the inverse of its highest coefficient
  pub gcd_made : (t : ℕ) (p q s r a b g : Series A) (n : ℕ) (e : A) → Euclid f t p q s r a b n → Below f 0 r → Lead f n e s → g ≡ (poly f).mul (mono f e 0) s → Gcd f t n p q g
  gcd_made t p q s r a b g n e h u lead made =
      let M = mono f e 0 in
      let N = mono f (s n) 0 in
      let none : r ≡ (poly f).zero = fun_ext (λ j. u j (omega arith) ∙ sym (at_zero k j)) in
      let back : (poly f).mul N M ≡ (poly f).one = mono_mul k (s n) e 0 0 ∙ ap (λ (w : A). mono f w 0) lead.top ∙ mono_one in
      let x₁ = h.p_is in
      let x₂ = h.q_is in
      let x₃ = h.s_is in
      let y₁ = solve (poly_laws k) (b ∷ s ∷ a ∷ []) ((v 0 ⊗ v 1) ⊕ (v 2 ⊗ o)) ((v 0 ⊗ i) ⊗ v 1) refl in
      let y₂ = solve (poly_laws k) (h.d ∷ s ∷ h.c ∷ []) ((v 0 ⊗ v 1) ⊕ (v 2 ⊗ o)) ((v 0 ⊗ i) ⊗ v 1) refl in
      let z₁ = solve (poly_laws k) (b ∷ N ∷ M ∷ s ∷ []) ((v 0 ⊗ (v 1 ⊗ v 2)) ⊗ v 3) ((v 1 ⊗ v 0) ⊗ (v 2 ⊗ v 3)) refl in
      let z₂ = solve (poly_laws k) (h.d ∷ N ∷ M ∷ s ∷ []) ((v 0 ⊗ (v 1 ⊗ v 2)) ⊗ v 3) ((v 1 ⊗ v 0) ⊗ (v 2 ⊗ v 3)) refl in
      let w = solve (poly_laws k) (M ∷ h.c ∷ p ∷ a ∷ q ∷ []) (v 0 ⊗ ((v 1 ⊗ v 2) ⊕ (v 3 ⊗ v 4))) (((v 0 ⊗ v 1) ⊗ v 2) ⊕ ((v 0 ⊗ v 3) ⊗ v 4)) refl in
      record {
        top = ap (λ (x : Series A). x n) made ∙ mono_high k e 0 s n n (omega arith) ∙ k.mul_comm e (s n) ∙ lead.top;
        under = subst (λ (x : Series A). Below f (suc n) x) (sym made) (λ j l. below_mono k e 0 (suc n) s lead.under j (omega arith));
        p_over = (poly f).mul N b;
        q_over = (poly f).mul N h.d;
        p_is = cc;
        q_is = cc;
        p_part = (poly f).mul M h.c;
        q_part = (poly f).mul M a;
        sum = cc;
        within = h.within;
        short_p_over = λ j l. below_mono k (s n) 0 (suc (t - n)) b h.short_b j (omega arith);
        short_q_over = λ j l. below_mono k (s n) 0 (suc (t - n)) h.d h.short_d j (omega arith);
        short_p_part = λ j l. below_mono k e 0 (suc (t - n)) h.c h.short_c j (omega arith);
        short_q_part = λ j l. below_mono k e 0 (suc (t - n)) a h.short_a j (omega arith);
      }

  -- a constant
  constant : (p : Series A) → Below f 1 p → p ≡ mono f (p 0) 0
  constant p u = fun_ext (λ j. elim (dec_le 1 j) [
    | yes h ↦ u j h ∙ sym (mono_other k (p 0) 0 j (omega arith))
    | no h ↦ let e : 0 ≡ j = omega arith in subst (λ (x : ℕ). p x ≡ mono f (p 0) 0 x) e (sym (mono_same k (p 0) 0))
  ])

  pub inverse_made : (t : ℕ) (p q s r a b b' : Series A) (n : ℕ) (e : A) → Euclid f t p q s r a b n → 1 ≤ n → Below f 1 r → f.mul (r 0) e ≡ f.one → b' ≡ (poly f).mul (mono f e 0) b → Inverse f t p q b'
  inverse_made t p q s r a b b' n e h pos u top made =
      let le : n ≤ t = h.within in
      let M = mono f e 0 in
      let x₁ = constant r u in
      let x₂ : (poly f).mul M (mono f (r 0) 0) ≡ (poly f).one = mono_mul k e (r 0) 0 0 ∙ ap (λ (w : A). mono f w 0) (k.mul_comm e (r 0) ∙ top) ∙ mono_one in
      let x₃ = h.r_is in
      let w = solve (poly_laws k) (M ∷ h.d ∷ p ∷ b ∷ q ∷ []) (v 0 ⊗ ((v 1 ⊗ v 2) ⊕ (v 3 ⊗ v 4))) (((v 0 ⊗ v 1) ⊗ v 2) ⊕ ((v 0 ⊗ v 3) ⊗ v 4)) refl in
      record {
        short = subst (λ (x : Series A). Below f t x) (sym made) (λ j l. below_mono k e 0 (suc (t - n)) b h.short_b j (omega arith));
        other = (poly f).mul M h.d;
        short_other = λ j l. below_mono k e 0 (suc (t - n)) h.d h.short_d j (omega arith);
        one = cc;
      }

  pub shared_made : (t : ℕ) (p q s r a b : Series A) (n : ℕ) → Euclid f t p q s r a b n → 1 ≤ n → Below f 1 r → r 0 ≡ f.zero → Shared f p q
  shared_made t p q s r a b n h pos u z =
      let none : r ≡ (poly f).zero = fun_ext (λ j. elim (dec_le 1 j) [
        | yes l ↦ u j l ∙ sym (at_zero k j)
        | no l ↦ let e : 0 ≡ j = omega arith in subst (λ (x : ℕ). r x ≡ (poly f).zero x) e (z ∙ sym (at_zero k 0))
      ]) in
      let x₁ = h.p_is in
      let x₂ = h.q_is in
      let y₁ = solve (poly_laws k) (b ∷ s ∷ a ∷ []) ((v 0 ⊗ v 1) ⊕ (v 2 ⊗ o)) (v 0 ⊗ v 1) refl in
      let y₂ = solve (poly_laws k) (h.d ∷ s ∷ h.c ∷ []) ((v 0 ⊗ v 1) ⊕ (v 2 ⊗ o)) (v 0 ⊗ v 1) refl in
      record { n = n; positive = pos; divisor = s; degree = h.degree; p_over = b; q_over = h.d; p_is = cc; q_is = cc }
