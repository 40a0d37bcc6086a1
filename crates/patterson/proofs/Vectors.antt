-- The points that a vector chooses, and the vector from its points.
use mathlib.Core.Path.{◌≡◌, refl, sym, ap, ap₂, subst}
use mathlib.Core.Bool.{Bool, true, false}
use mathlib.Core.List.{List, [], ◌∷◌}
use mathlib.Core.Logic.{inl, inr}
use Prim.Native.Nat.{ℕ, suc}
use native.Mathlib.Omega.{arith}
use lib.ListN.{length}
use Rattle.patterson.specs.Points.{In, Distinct}
use Rattle.patterson.specs.Vectors.{chosen, weight, marks}

pub false_not_true : false ≡ true → ⊥
false_not_true h = let z : ◌≡◌ {A = ℕ} 0 1 = ap (elim [ true ↦ 1 | false ↦ 0 ]) h in omega arith

bit_linear : (b c : Bool) → (b ≡ true → c ≡ true) → (c ≡ true → b ≡ true) → b ≡ c
bit_linear true true h g = refl
bit_linear true false h g = sym (h refl)
bit_linear false true h g = g refl
bit_linear false false h g = refl

module _ {A : Type 0} where
  pub chosen_in : (e : List Bool) (sup : List A) (x : A) → In x (chosen e sup) → In x sup
  chosen_in [] sup x m = absurd m
  chosen_in (b ∷ e) [] x m = absurd m
  chosen_in (true ∷ e) (α ∷ sup) x m = elim m [ inl h ↦ inl h | inr n ↦ inr (chosen_in e sup x n) ]
  chosen_in (false ∷ e) (α ∷ sup) x m = inr (chosen_in e sup x m)

  pub chosen_distinct : (e : List Bool) (sup : List A) → Distinct sup → Distinct (chosen e sup)
  chosen_distinct [] sup d = tt
  chosen_distinct (b ∷ e) [] d = tt
  chosen_distinct (true ∷ e) (α ∷ sup) d = (λ m. d.0 (chosen_in e sup α m), chosen_distinct e sup d.1)
  chosen_distinct (false ∷ e) (α ∷ sup) d = chosen_distinct e sup d.1

  pub length_chosen : (e : List Bool) (sup : List A) → length e ≡ length sup → length (chosen e sup) ≡ weight e
  length_chosen [] sup l = refl
  length_chosen (b ∷ e) [] l = absurd (omega arith)
  length_chosen (true ∷ e) (α ∷ sup) l = ap suc (length_chosen e sup (omega arith))
  length_chosen (false ∷ e) (α ∷ sup) l = length_chosen e sup (omega arith)

  -- a test that the chosen points pass, and no others of the support, marks the vector
  pub marked : (m : A → Bool) (e : List Bool) (sup : List A) → Distinct sup → length e ≡ length sup
      → ((x : A) → In x sup → m x ≡ true → In x (chosen e sup)) → ((x : A) → In x (chosen e sup) → m x ≡ true) → marks m sup ≡ e
  marked m [] [] d l h g = refl
  marked m [] (α ∷ sup) d l h g = absurd (omega arith)
  marked m (b ∷ e) [] d l h g = absurd (omega arith)
  marked m (true ∷ e) (α ∷ sup) d l h g =
      ap₂ (λ (b : Bool) (r : List Bool). b ∷ r) (g α (inl refl))
      (marked m e sup d.1 (omega arith)
      (λ x i t. elim (h x (inr i) t) [ inl q ↦ absurd (d.0 (subst (λ y. In y sup) q i)) | inr w ↦ w ])
      (λ x i. g x (inr i)))
  marked m (false ∷ e) (α ∷ sup) d l h g =
      ap₂ (λ (b : Bool) (r : List Bool). b ∷ r)
      (bit_linear (m α) false (λ t. absurd (d.0 (chosen_in e sup α (h α (inl refl) t)))) (λ t. absurd (false_not_true t)))
      (marked m e sup d.1 (omega arith) (λ x i t. h x (inr i) t) g)
