-- Terms c·X^k, and bounds on degrees.
use Rattle.std.proofs.Common.{◌≡◌, ℕ, zero, suc, ◌+◌, ◌-◌, ◌<◌, ◌≤◌, ◌≢◌, sym, refl, ap, ◌∙◌, subst, ap₂, arith}
use mathlib.Core.Path.{fun_ext}
use native.Mathlib.Decide.{dec_le}
use Rattle.algebra.specs.Field.{Ops, Laws}
use Rattle.algebra.specs.Ring.{RingLaws, ring_of}
use Rattle.algebra.specs.Series.{Series, times, Below}
use Rattle.algebra.proofs.Rings.{ring_laws, zero_add, mul_zero, zero_mul}
use Rattle.algebra.proofs.Series.{series_laws, none_left}
use Rattle.polys.specs.Coefs.{poly, mono}

module _ {A : Type 0} {f : Ops A} (k : Laws f) where
  pub poly_laws : RingLaws (poly f)
  unfolding poly
  poly_laws = series_laws (ring_laws k)

  pub at_add : (p q : Series A) (i : ℕ) → (poly f).add p q i ≡ f.add (p i) (q i)
  unfolding poly
  at_add p q i = refl

  pub at_zero : (i : ℕ) → (poly f).zero i ≡ f.zero
  unfolding poly
  at_zero i = refl

  pub mono_same : (c : A) (i : ℕ) → mono f c i i ≡ c
  unfolding mono
  mono_same c zero = refl
  mono_same c (suc i) = mono_same c i

  pub mono_other : (c : A) (i j : ℕ) → j ≢ i → mono f c i j ≡ f.zero
  unfolding mono
  mono_other c zero zero n = absurd (n refl)
  mono_other c zero (suc j) n = refl
  mono_other c (suc i) zero n = refl
  mono_other c (suc i) (suc j) n = mono_other c i j (λ e. n (ap suc e))

  const_times : (c : A) (p : Series A) (n : ℕ) → times (ring_of f) (mono f c 0) p n ≡ f.mul c (p n)
  unfolding mono
  const_times c p zero = refl
  const_times c p (suc n) = ap (f.add (f.mul c (p (suc n)))) (none_left (ring_laws k) n p) ∙ k.add_zero (f.mul c (p (suc n)))

  high : (c : A) (i : ℕ) (p : Series A) (n j : ℕ) → j ≡ i + n → times (ring_of f) (mono f c i) p j ≡ f.mul c (p n)
  unfolding mono
  high c zero p n j e = let e' : j ≡ n = omega arith in const_times c p j ∙ ap (λ (x : ℕ). f.mul c (p x)) e'
  high c (suc i) p n zero e = absurd (omega arith)
  high c (suc i) p n (suc j) e =
      ap₂ f.add (zero_mul (ring_laws k) (p (suc j))) (high c i p n j (omega arith)) ∙ zero_add (ring_laws k) (f.mul c (p n))

  low : (c : A) (i : ℕ) (p : Series A) (j : ℕ) → j < i → times (ring_of f) (mono f c i) p j ≡ f.zero
  unfolding mono
  low c zero p j h = absurd (omega arith)
  low c (suc i) p zero h = zero_mul (ring_laws k) (p 0)
  low c (suc i) p (suc j) h =
      ap₂ f.add (zero_mul (ring_laws k) (p (suc j))) (low c i p j (omega arith)) ∙ k.add_zero f.zero

  -- the coefficients of c·X^i·p
  pub mono_high : (c : A) (i : ℕ) (p : Series A) (n j : ℕ) → j ≡ i + n → (poly f).mul (mono f c i) p j ≡ f.mul c (p n)
  unfolding poly
  mono_high c i p n j e = high c i p n j e

  pub mono_low : (c : A) (i : ℕ) (p : Series A) (j : ℕ) → j < i → (poly f).mul (mono f c i) p j ≡ f.zero
  unfolding poly
  mono_low c i p j h = low c i p j h

  pub mono_mul : (c d : A) (i j : ℕ) → (poly f).mul (mono f c i) (mono f d j) ≡ mono f (f.mul c d) (i + j)
  mono_mul c d i j = fun_ext (λ n. elim (dec_le i n) [
    | yes h ↦
        let s : n ≡ i + (n - i) = omega arith in
        mono_high c i (mono f d j) (n - i) n s ∙ elim (dec_le n (i + j)) [
          | yes u ↦ elim (dec_le (i + j) n) [
            | yes w ↦
                let e : n ≡ i + j = omega arith in
                let e' : n - i ≡ j = omega arith in
                ap (λ (x : ℕ). f.mul c (mono f d j x)) e' ∙ ap (f.mul c) (mono_same d j) ∙ sym (mono_same (f.mul c d) (i + j)) ∙ ap (mono f (f.mul c d) (i + j)) (sym e)
            | no w ↦ ap (f.mul c) (mono_other d j (n - i) (omega arith)) ∙ mul_zero (ring_laws k) c ∙ sym (mono_other (f.mul c d) (i + j) n (omega arith))
          ]
          | no u ↦ ap (f.mul c) (mono_other d j (n - i) (omega arith)) ∙ mul_zero (ring_laws k) c ∙ sym (mono_other (f.mul c d) (i + j) n (omega arith))
        ]
    | no h ↦ mono_low c i (mono f d j) n (omega arith) ∙ sym (mono_other (f.mul c d) (i + j) n (omega arith))
  ])

  pub below_wider : (n m : ℕ) (p : Series A) → n ≤ m → Below f n p → Below f m p
  below_wider n m p h u i l = u i (omega arith)

  pub below_add : (n : ℕ) (p q : Series A) → Below f n p → Below f n q → Below f n ((poly f).add p q)
  below_add n p q a b i h = at_add p q i ∙ ap₂ f.add (a i h) (b i h) ∙ k.add_zero f.zero

  pub below_mono : (c : A) (i n : ℕ) (p : Series A) → Below f n p → Below f (i + n) ((poly f).mul (mono f c i) p)
  below_mono c i n p u j h =
      let s : j ≡ i + (j - i) = omega arith in
      mono_high c i p (j - i) j s ∙ ap (f.mul c) (u (j - i) (omega arith)) ∙ mul_zero (ring_laws k) c

  -- the highest coefficient is zero too
  pub below_less : (n : ℕ) (p : Series A) → Below f (n + 1) p → p n ≡ f.zero → Below f n p
  below_less n p u z i h = elim (dec_le (n + 1) i) [
    | yes l ↦ u i l
    | no l ↦ let e : n ≡ i = omega arith in subst (λ (x : ℕ). p x ≡ f.zero) e z
  ]
