-- The divisions by the common divisors leave nothing, and the zeros of g fall into three parts of known sizes.
use mathlib.Core.Path.{◌≡◌, refl, sym, ap, ◌∙◌}
use mathlib.Core.List.{List, [], ◌∷◌, ◌++◌}
use mathlib.Core.Logic.{inl, inr}
use Prim.Native.Nat.{ℕ, ◌+◌, ◌-◌}
use native.Mathlib.Omega.{arith}
use lib.ListN.{length, length-append}
use Rattle.algebra.specs.Field.{Ops, Laws}
use Rattle.algebra.proofs.Rings.{ring_laws, mul_zero, zero_mul}
use Rattle.algebra.proofs.Solve.{v, o, i, ◌⊕◌, ◌⊗◌}
use Rattle.patterson.specs.Points.{In, Distinct}
use Rattle.patterson.specs.Polys.{Vanishes, Splits}
use Rattle.patterson.specs.Decoder.{Prepared}
use Rattle.patterson.proofs.Points.{part, regroup, in_append, distinct_append}
use Rattle.patterson.proofs.Elements.{ring, by_two, mul_nonzero, nonzero_mul}
use Rattle.patterson.proofs.Divisors.{zeros_counted, exact}

-- the zeros of g where s is zero, those where v is, and the others
pub record Sorted {A : Type 0} (f : Ops A) (s w : A → A) (zs : List A) (t n1 n2 : ℕ) : Type 0 where
  pub first : List A
  pub second : List A
  pub third : List A
  pub first_count : length first ≡ n1
  pub second_count : length second ≡ n2
  pub third_count : length third + (n1 + n2) ≡ t
  pub first_distinct : Distinct first
  pub second_distinct : Distinct second
  pub third_distinct : Distinct third
  pub first_in : (x : A) → In x first → In x zs
  pub second_in : (x : A) → In x second → In x zs
  pub third_in : (x : A) → In x third → In x zs
  pub first_zero : (x : A) → In x first → s x ≡ f.zero
  pub second_zero : (x : A) → In x second → w x ≡ f.zero
  pub third_s : (x : A) → In x third → s x ≡ f.zero → ⊥
  pub third_v : (x : A) → In x third → w x ≡ f.zero → ⊥

module _ {A : Type 0} {f : Ops A} (k : Laws f) (dec : (x y : A) → Dec (x ≡ y)) (t : ℕ) (g s w : A → A)
    (zs : List A) (sp : Splits f t g zs) (n1 n2 : ℕ) (g1 g2 s1 v2 g12 : A → A) (h : Prepared f t g s w zs n1 n2 g1 g2 s1 v2 g12) where
  pub never_both : (z : A) → In z zs → s z ≡ f.zero → w z ≡ f.zero → ⊥
  never_both z m a b =
      k.one_zero
      (by_two k f.one z (sym (h.v_is z m) ∙ b) a
      (ring k (z ∷ s z ∷ []) (i ⊕ o) ((i ⊗ ((i ⊕ (v 0 ⊗ v 1)) ⊕ o)) ⊕ (v 0 ⊗ (v 1 ⊕ o))) refl))

  pub sorted : Sorted f s w zs t n1 n2
  sorted =
      let a = part (λ x. s x ≡ f.zero) (λ x. dec (s x) f.zero) zs sp.differ in
      let b = part (λ x. w x ≡ f.zero) (λ x. dec (w x) f.zero) a.fail a.fail_distinct in
      let c1 : length a.pass ≡ n1 = zeros_counted k t g s zs sp n1 g1 h.s_divisor a in
      let c2 : length b.pass ≡ n2 =
      zeros_counted k t g w zs sp n2 g2 h.v_divisor
      (regroup (λ x. s x ≡ f.zero) (λ x. w x ≡ f.zero) zs a b never_both) in
      record {
        first = a.pass;
        second = b.pass;
        third = b.fail;
        first_count = c1;
        second_count = c2;
        third_count = omega (arith, a.count, b.count, sp.count);
        first_distinct = a.pass_distinct;
        second_distinct = b.pass_distinct;
        third_distinct = b.fail_distinct;
        first_in = a.pass_in;
        second_in = λ x m. a.fail_in x (b.pass_in x m);
        third_in = λ x m. a.fail_in x (b.fail_in x m);
        first_zero = a.passed;
        second_zero = b.passed;
        third_s = λ x m. a.failed x (b.fail_in x m);
        third_v = b.failed;
      }

  pub s_exact : (x : A) → s x ≡ f.mul (s1 x) (g1 x)
  s_exact =
      let z = sorted in
      exact k n1 z.first z.first_distinct z.first_count s g1 s1 h.s_rest h.s_rest_poly h.s_division
      (λ x m. h.s_divisor.zero_here x (z.first_in x m) (z.first_zero x m)) z.first_zero

  pub v_exact : (x : A) → w x ≡ f.mul (v2 x) (g2 x)
  v_exact =
      let z = sorted in
      exact k n2 z.second z.second_distinct z.second_count w g2 v2 h.v_rest h.v_rest_poly h.v_division
      (λ x m. h.v_divisor.zero_here x (z.second_in x m) (z.second_zero x m)) z.second_zero

  pub g_exact : (x : A) → g x ≡ f.mul (g12 x) (f.mul (g1 x) (g2 x))
  g_exact =
      let z = sorted in
      exact k (n1 + n2) (z.first ++ z.second)
      (distinct_append z.first z.second z.first_distinct z.second_distinct
      (λ x a b. never_both x (z.first_in x a) (z.first_zero x a) (z.second_zero x b)))
      (omega (arith, length-append z.first z.second, z.first_count, z.second_count))
      g (λ x. f.mul (g1 x) (g2 x)) g12 h.g_rest h.g_rest_poly h.g_division
      (λ x m. elim (in_append x z.first z.second m) [
        | inl a ↦ ap (λ u. f.mul u (g2 x)) (h.s_divisor.zero_here x (z.first_in x a) (z.first_zero x a)) ∙ zero_mul (ring_laws k) (g2 x)
        | inr b ↦ ap (f.mul (g1 x)) (h.v_divisor.zero_here x (z.second_in x b) (z.second_zero x b)) ∙ mul_zero (ring_laws k) (g1 x)
      ])
      (λ x m. elim (in_append x z.first z.second m) [ inl a ↦ sp.zeros x (z.first_in x a) | inr b ↦ sp.zeros x (z.second_in x b) ])

  -- where neither s nor v is zero, neither is g1, g2, or s1
  pub g1_some : (z : A) → In z zs → (s z ≡ f.zero → ⊥) → g1 z ≡ f.zero → ⊥
  g1_some z m n e = n (h.s_divisor.zero_there z m e)

  pub g2_some : (z : A) → In z zs → (w z ≡ f.zero → ⊥) → g2 z ≡ f.zero → ⊥
  g2_some z m n e = n (h.v_divisor.zero_there z m e)

  pub s1_some : (z : A) → In z zs → (s z ≡ f.zero → ⊥) → s1 z ≡ f.zero → ⊥
  s1_some z m n e = n (s_exact z ∙ ap (λ u. f.mul u (g1 z)) e ∙ zero_mul (ring_laws k) (g1 z))

  -- .. and g12 is
  pub g12_zero : (z : A) → In z zs → (s z ≡ f.zero → ⊥) → (w z ≡ f.zero → ⊥) → g12 z ≡ f.zero
  g12_zero z m a b =
      mul_nonzero k (nonzero_mul k (g1_some z m a) (g2_some z m b)) (k.mul_comm (f.mul (g1 z) (g2 z)) (g12 z) ∙ sym (g_exact z) ∙ sp.zeros z m)

  pub g12_some : Vanishes f g12 → ⊥
  g12_some n = sp.some (λ x. g_exact x ∙ ap (λ u. f.mul u (f.mul (g1 x) (g2 x))) (n x) ∙ zero_mul (ring_laws k) (f.mul (g1 x) (g2 x)))

  -- g12 with its zeros
  pub g12_splits : Splits f (t - (n1 + n2)) g12 sorted.third
  g12_splits =
      let z = sorted in
      record {
        differ = z.third_distinct;
        count = omega (arith, z.third_count);
        zeros = λ x m. g12_zero x (z.third_in x m) (z.third_s x m) (z.third_v x m);
        some = g12_some;
      }
