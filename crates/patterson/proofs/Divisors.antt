-- A divisor of a polynomial with all its zeros in the field has as many of these as its degree.
use mathlib.Core.Path.{◌≡◌, refl, sym, ap, ◌∙◌}
use mathlib.Core.List.{List, [], ◌∷◌}
use Prim.Native.Nat.{ℕ, suc, ◌-◌, ◌<◌}
use native.Mathlib.Omega.{arith}
use lib.ListN.{length}
use Rattle.algebra.specs.Field.{Ops, Laws}
use Rattle.algebra.proofs.Rings.{ring_laws, mul_zero, zero_mul}
use Rattle.algebra.proofs.Solve.{v, o, i, ◌⊕◌, ◌⊗◌}
use Rattle.patterson.specs.Points.{In, Distinct}
use Rattle.patterson.specs.Polys.{Poly, Vanishes, Splits}
use Rattle.patterson.specs.Euclid.{CommonDivisor}
use Rattle.patterson.proofs.Points.{Parted}
use Rattle.patterson.proofs.Elements.{ring, by_two, mul_nonzero}
use Rattle.patterson.proofs.Polys.{vanishes, few_zeros}

module _ {A : Type 0} {f : Ops A} (k : Laws f) where
  -- the zeros where q is zero are as many as the divisor's degree
  pub zeros_counted : (t : ℕ) (g q : A → A) (zs : List A) → Splits f t g zs
      → (n : ℕ) (divisor : A → A) → CommonDivisor f t g q zs n divisor
      → (z : Parted (λ x. q x ≡ f.zero) zs) → length z.pass ≡ n
  zeros_counted t g q zs sp n d h z =
      let low : length z.pass < suc n =
      few_zeros k h.poly (λ e. sp.some (λ x. sym (h.parts x) ∙ ap (f.mul (h.other x)) (e x) ∙ mul_zero (ring_laws k) (h.other x)))
      z.pass z.pass_distinct (λ x m. h.zero_here x (z.pass_in x m) (z.passed x m)) in
      let high : length z.fail < suc (t - n) =
      few_zeros k h.other_poly (λ e. sp.some (λ x. sym (h.parts x) ∙ ap (λ w. f.mul w (d x)) (e x) ∙ zero_mul (ring_laws k) (d x)))
      z.fail z.fail_distinct
      (λ x m. mul_nonzero k (λ e. z.failed x m (h.zero_there x (z.fail_in x m) e))
      (k.mul_comm (d x) (h.other x) ∙ h.parts x ∙ sp.zeros x (z.fail_in x m))) in
      omega (arith, z.count, h.room, sp.count)

  -- a division by a polynomial with n different zeros, at which the dividend is zero too, leaves nothing
  pub exact : (n : ℕ) (xs : List A) → Distinct xs → length xs ≡ n → (dividend divisor quotient rest : A → A) → Poly f n rest
      → ((x : A) → dividend x ≡ f.add (f.mul (quotient x) (divisor x)) (rest x))
      → ((x : A) → In x xs → divisor x ≡ f.zero) → ((x : A) → In x xs → dividend x ≡ f.zero)
      → (x : A) → dividend x ≡ f.mul (quotient x) (divisor x)
  exact n xs differ count a b c r pr e hb ha x =
      let none : Vanishes f r =
      vanishes k pr xs differ (omega arith)
      (λ z m. by_two k f.one (c z) (sym (ha z m) ∙ e z) (hb z m)
      (ring k (c z ∷ b z ∷ r z ∷ []) (v 2 ⊕ o) ((i ⊗ (o ⊕ ((v 0 ⊗ v 1) ⊕ v 2))) ⊕ (v 0 ⊗ (v 1 ⊕ o))) refl)) in
      e x ∙ ap (f.add (f.mul (c x) (b x))) (none x) ∙ k.add_zero (f.mul (c x) (b x))

  -- only q's values at the points count
  pub divisor_same : (t : ℕ) (g q q' : A → A) (zs : List A) (n : ℕ) (divisor : A → A) → ((z : A) → In z zs → q z ≡ q' z)
      → CommonDivisor f t g q zs n divisor → CommonDivisor f t g q' zs n divisor
  divisor_same t g q q' zs n d e h = record {
    room = h.room;
    poly = h.poly;
    other = h.other;
    other_poly = h.other_poly;
    parts = h.parts;
    zero_there = λ z m a. sym (e z m) ∙ h.zero_there z m a;
    zero_here = λ z m a. h.zero_here z m (e z m ∙ a);
  }
