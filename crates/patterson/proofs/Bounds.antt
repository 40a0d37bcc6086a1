-- Where the syndrome is that of t points, its zeros and those of v = 1 + X·s among the zeros of g are few.
use mathlib.Core.Path.{◌≡◌, refl, sym, ◌∙◌}
use mathlib.Core.List.{List, [], ◌∷◌}
use mathlib.Core.Logic.{inl, inr}
use Prim.Native.Nat.{ℕ, suc, ◌/◌, ◌≤◌, ◌<◌}
use native.Mathlib.Omega.{arith}
use lib.ListN.{length}
use Rattle.algebra.specs.Field.{Ops, Laws, Roots}
use Rattle.patterson.specs.Points.{In, Distinct}
use Rattle.patterson.specs.Syndrome.{ErrorPoints, shifted}
use Rattle.patterson.proofs.Polys.{few_zeros}
use Rattle.patterson.proofs.Split.{even_part, odd_part, odd_part_nonzero, even_part_nonzero}
use Rattle.patterson.proofs.KeyEquation.{key_equation, odd_part_at_zero, even_part_at_zero}
use Rattle.patterson.proofs.Recovery.{own_even, own_odd}

first_point : {A : Type 0} (es : List A) → 1 ≤ length es → (x : A) × In x es
first_point [] l = absurd (omega arith)
first_point (x ∷ es) l = (x, inl refl)

-- of two different points one is not zero
some_point : {A : Type 0} (o : A) → ((x y : A) → Dec (x ≡ y)) → (es : List A) → Distinct es → 2 ≤ length es → (x : A) × In x es × (x ≡ o → ⊥)
some_point o dec [] u l = absurd (omega arith)
some_point o dec (x ∷ []) u l = absurd (omega arith)
some_point o dec (x ∷ y ∷ es) u l =
    elim (dec x o) [ no n ↦ (x, inl refl, n) | yes e ↦ (y, inr (inl refl), λ h. u.0 (inl (e ∙ sym h))) ]

module _ {A : Type 0} {f : Ops A} (k : Laws f) (dec : (x y : A) → Dec (x ≡ y)) (r : Roots f)
    (t : ℕ) (s : A → A) (zs es : List A) (zs-differ : Distinct zs) (zs-count : length zs ≡ t) (e : ErrorPoints f t s zs es) where
  -- s is zero at less than half of the zeros of g
  pub few_s_zeros : 1 ≤ t → (xs : List A) → Distinct xs → ((x : A) → In x xs → In x zs) → ((x : A) → In x xs → s x ≡ f.zero) → length xs < suc t / 2
  few_s_zeros one xs u sub h =
      let p = first_point es (omega (arith, e.count)) in
      few_zeros k (own_odd k dec r t s zs es zs-differ zs-count e)
      (λ n. odd_part_nonzero k r es e.differ p.0 p.1 (n p.0)) xs u
      (λ x m. odd_part_at_zero k dec x (s x) (even_part r es x) (odd_part r es x) (key_equation k r s zs es e.syndrome e.apart x (sub x m)) (h x m))

  -- and v at half of them at most
  pub few_v_zeros : 2 ≤ t → (xs : List A) → Distinct xs → ((x : A) → In x xs → In x zs) → ((x : A) → In x xs → shifted f s x ≡ f.zero) → length xs < suc (t / 2)
  few_v_zeros two xs u sub h =
      let p = some_point f.zero dec es e.differ (omega (arith, e.count)) in
      few_zeros k (own_even k dec r t s zs es zs-differ zs-count e)
      (λ n. even_part_nonzero k r es e.differ p.0 p.1 p.2 (n p.0)) xs u
      (λ x m. even_part_at_zero k dec x (s x) (even_part r es x) (odd_part r es x) (key_equation k r s zs es e.syndrome e.apart x (sub x m)) (h x m))
