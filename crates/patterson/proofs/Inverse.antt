-- Euclid's rule up to a constant remainder gives the inverse where p is zero.
use mathlib.Core.Path.{◌≡◌, refl, sym, ◌∙◌}
use mathlib.Core.List.{List, [], ◌∷◌}
use Prim.Native.Nat.{ℕ, ◌<◌}
use native.Mathlib.Omega.{arith}
use lib.ListN.{length}
use Rattle.algebra.specs.Field.{Ops, Laws}
use Rattle.algebra.proofs.Solve.{v, i, ◌⊕◌, ◌⊗◌}
use Rattle.patterson.specs.Points.{In}
use Rattle.patterson.specs.Polys.{Poly, Vanishes, Splits}
use Rattle.patterson.specs.Euclid.{EuclidState}
use Rattle.patterson.specs.Decoder.{RootOf}
use Rattle.patterson.proofs.Points.{part}
use Rattle.patterson.proofs.Elements.{ring, by_two}
use Rattle.patterson.proofs.Polys.{poly_constant}
use Rattle.patterson.proofs.Euclid.{divisor}
use Rattle.patterson.proofs.Divisors.{zeros_counted}

none_pass : {A : Type 0} (xs : List A) → ((x : A) → In x xs → ⊥) → length xs ≡ 0
none_pass [] h = refl
none_pass (x ∷ xs) h = absurd (h x (mathlib.Core.Logic.inl refl))

module _ {A : Type 0} {f : Ops A} (k : Laws f) (dec : (x y : A) → Dec (x ≡ y)) (d : ℕ) (p q : A → A) (zs : List A) (sp : Splits f d p zs) (q-some : (z : A) → In z zs → q z ≡ f.zero → ⊥)
    (n : ℕ) (older newer old_factor factor : A → A) (st : EuclidState f d p q n older newer old_factor factor) (positive : 0 < n) where
  -- before the older remainder is a constant, the newer is not zero
  pub newer_some : Vanishes f newer → ⊥
  newer_some end =
      let z = part (λ x. q x ≡ f.zero) (λ x. dec (q x) f.zero) zs sp.differ in
      let e : length z.pass ≡ n = zeros_counted k d p q zs sp n older (divisor k d p q zs sp n older newer old_factor factor st end) z in
      let l : length z.pass ≡ 0 = none_pass z.pass (λ x m. q-some x (z.pass_in x m) (z.passed x m)) in
      absurd (omega arith)

  -- a constant remainder c: the factor by c is the inverse of q at the zeros of p
  pub inverse_at : Poly f 1 newer → (c : A) → c ≡ newer f.zero → (z : A) → p z ≡ f.zero → f.mul (f.mul (f.inv c) (factor z)) (q z) ≡ f.one
  inverse_at one c e z m =
      let nz : c ≡ f.zero → ⊥ = λ h. newer_some (λ x. poly_constant k one x f.zero ∙ sym e ∙ h) in
      by_two k (f.inv c) f.one (st.gives z m ∙ poly_constant k one z f.zero ∙ sym e) (k.mul_inv c nz)
      (ring k (f.inv c ∷ factor z ∷ q z ∷ c ∷ [])
      (((v 0 ⊗ v 1) ⊗ v 2) ⊕ i)
      ((v 0 ⊗ ((v 1 ⊗ v 2) ⊕ v 3)) ⊕ (i ⊗ ((v 3 ⊗ v 0) ⊕ i))) refl)

-- from the inverse of g2·s1 at the points to the root: u is the inverse times g1·v2, and y is a root of u
pub root_of : {A : Type 0} {f : Ops A} (k : Laws f) (s w : A → A) (zs : List A) (g1 g2 s1 v2 inverse u y : A → A)
    → ((z : A) → In z zs → (s z ≡ f.zero → ⊥) → (w z ≡ f.zero → ⊥) → f.mul (inverse z) (f.mul (g2 z) (s1 z)) ≡ f.one)
    → ((z : A) → In z zs → (s z ≡ f.zero → ⊥) → (w z ≡ f.zero → ⊥) → u z ≡ f.mul (inverse z) (f.mul (g1 z) (v2 z)))
    → ((z : A) → In z zs → (s z ≡ f.zero → ⊥) → (w z ≡ f.zero → ⊥) → f.mul (y z) (y z) ≡ u z)
    → RootOf f s w zs g1 g2 s1 v2 y
root_of {f = f} k s w zs g1 g2 s1 v2 inverse u y hi hu hy z m a b =
    by_two k (f.mul (g2 z) (s1 z)) (f.mul (g1 z) (v2 z)) (hy z m a b ∙ hu z m a b) (hi z m a b)
    (ring k (y z ∷ g2 z ∷ s1 z ∷ g1 z ∷ v2 z ∷ inverse z ∷ [])
    (((v 0 ⊗ v 0) ⊗ (v 1 ⊗ v 2)) ⊕ (v 3 ⊗ v 4))
    (((v 1 ⊗ v 2) ⊗ ((v 0 ⊗ v 0) ⊕ (v 5 ⊗ (v 3 ⊗ v 4)))) ⊕ ((v 3 ⊗ v 4) ⊗ ((v 5 ⊗ (v 1 ⊗ v 2)) ⊕ i))) refl)
