-- The sum of the columns that a vector chooses has the syndrome's values, and only it has.
use mathlib.Core.Path.{◌≡◌, refl, sym, ap, ap₂, ◌∙◌}
use mathlib.Core.Bool.{Bool, true, false}
use mathlib.Core.List.{List, [], ◌∷◌}
use mathlib.Core.Logic.{inl, inr}
use Prim.Native.Nat.{ℕ, suc, ◌≤◌}
use native.Mathlib.Omega.{arith}
use lib.ListN.{length}
use Rattle.algebra.specs.Field.{Ops, Laws}
use Rattle.algebra.specs.Ring.{ring_of}
use Rattle.algebra.specs.Poly.{eval}
use Rattle.algebra.specs.Series.{ser}
use Rattle.algebra.proofs.Eval.{eval_sum, eval_scale, eval_same}
use Rattle.algebra.proofs.Solve.{v, o, i, ◌⊕◌, ◌⊗◌}
use Rattle.patterson.specs.Points.{In, Distinct}
use Rattle.patterson.specs.Locator.{inverse_sum}
use Rattle.patterson.specs.Columns.{quotient_at, column, columns_sum}
use Rattle.patterson.specs.Syndrome.{Syndrome}
use Rattle.patterson.specs.Vectors.{chosen}
use Rattle.patterson.proofs.Elements.{ring, by_two, inverse_unique}
use Rattle.patterson.proofs.ZeroCount.{factor, length_quotient}
use Rattle.patterson.proofs.Polys.{length_sum, length_scale, same_coefficients}

module _ {A : Type 0} {f : Ops A} (k : Laws f) where
  -- the column is the inverse of X + α at the zeros of g
  pub column_inverse : (g : List A) (α β : A) → (eval f g α ≡ f.zero → ⊥) → eval f g β ≡ f.zero → f.mul (f.add β α) (eval f (column f g α) β) ≡ f.one
  column_inverse [] α β n e = absurd (n refl)
  column_inverse (c ∷ p) α β n e =
      let at = eval f (c ∷ p) α in
      ap (f.mul (f.add β α)) (eval_scale k (f.inv at) (quotient_at f α p) β)
      ∙ by_two k (f.inv at) f.one (sym e ∙ factor k α c p β) (k.mul_inv at n)
      (ring k (β ∷ α ∷ at ∷ f.inv at ∷ eval f (quotient_at f α p) β ∷ [])
      (((v 0 ⊕ v 1) ⊗ (v 3 ⊗ v 4)) ⊕ i)
      ((v 3 ⊗ (o ⊕ (v 2 ⊕ ((v 0 ⊕ v 1) ⊗ v 4)))) ⊕ (i ⊗ ((v 2 ⊗ v 3) ⊕ i))) refl)

  pub length_column : (g : List A) (α : A) (t : ℕ) → length g ≤ suc t → length (column f g α) ≤ t
  length_column [] α t l = omega arith
  length_column (c ∷ p) α t l = omega (arith, length_scale f (f.inv (eval f (c ∷ p) α)) (quotient_at f α p), length_quotient k α p)

  pub length_columns : (g : List A) (t : ℕ) → length g ≤ suc t → (e : List Bool) (sup : List A) → length (columns_sum f g e sup) ≤ t
  length_columns g t l [] sup = omega arith
  length_columns g t l (b ∷ e) [] = omega arith
  length_columns g t l (true ∷ e) (α ∷ sup) = length_sum f (column f g α) (columns_sum f g e sup) t (length_column g α t l) (length_columns g t l e sup)
  length_columns g t l (false ∷ e) (α ∷ sup) = length_columns g t l e sup

  pub columns_value : (g : List A) (β : A) → eval f g β ≡ f.zero → (e : List Bool) (sup : List A) → ((α : A) → In α sup → eval f g α ≡ f.zero → ⊥)
      → eval f (columns_sum f g e sup) β ≡ inverse_sum f (chosen e sup) β
  columns_value g β z [] sup n = refl
  columns_value g β z (b ∷ e) [] n = refl
  columns_value g β z (true ∷ e) (α ∷ sup) n =
      eval_sum k (column f g α) (columns_sum f g e sup) β
      ∙ ap₂ f.add (inverse_unique k (column_inverse g α β (n α (inl refl)) z)) (columns_value g β z e sup (λ x m. n x (inr m)))
  columns_value g β z (false ∷ e) (α ∷ sup) n = columns_value g β z e sup (λ x m. n x (inr m))

  module _ (g : List A) (zs sup : List A) (zeros : (β : A) → In β zs → eval f g β ≡ f.zero) (off : (α : A) → In α sup → eval f g α ≡ f.zero → ⊥) where
    -- coefficients to values
    pub syndrome_from : (s : List A) (e : List Bool) → ((j : ℕ) → ser (ring_of f) s j ≡ ser (ring_of f) (columns_sum f g e sup) j) → Syndrome f (eval f s) zs (chosen e sup)
    syndrome_from s e h β m = eval_same k s (columns_sum f g e sup) β h ∙ columns_value g β (zeros β m) e sup off

    -- values to coefficients
    pub syndrome_to : (t : ℕ) → length g ≤ suc t → Distinct zs → length zs ≡ t → (s : List A) → length s ≤ t → (e : List Bool) → Syndrome f (eval f s) zs (chosen e sup)
        → (j : ℕ) → ser (ring_of f) s j ≡ ser (ring_of f) (columns_sum f g e sup) j
    syndrome_to t lg u c s ls e h =
        same_coefficients k t s (columns_sum f g e sup) ls (length_columns g t lg e sup) zs u (omega arith)
        (λ β m. h β m ∙ sym (columns_value g β (zeros β m) e sup off))
