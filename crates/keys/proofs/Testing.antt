-- The test of a mixing seed.
use Rattle.std.proofs.Common.{◌≡◌, ℕ, ◌*◌, ◌<◌, true, false, List, sym, ap, ◌∙◌, subst, arith}
use Rattle.bits.specs.Vectors.{Matrix}
use Rattle.bits.specs.Packed.{matrix}
use Rattle.bits.specs.Kernels.{Same, Dependent, independent}
use Rattle.bits.proofs.Decision.{dependent_found, independent_found, independent_same}
use Rattle.bits.proofs.Elimination.{PartDone}
use Rattle.bits.proofs.Reduction.{injective}

-- the front of HP stands in a square matrix
module _ (w rows : ℕ) (xs : List ℕ) (HP HP' : Matrix) (e : rows ≡ 8 * w) (o : HP ≡ HP') (h : (i j : ℕ) → i < rows → j < 8 * w → matrix w xs i j ≡ HP i j) where
  front_same : Same (8 * w) (8 * w) (matrix w xs) HP'
  front_same i j l m = sym (h i j (omega arith) m ∙ ap (λ (A : Matrix). A i j) o)

  -- no pivot
  pub front_dependent : Dependent (8 * w) (matrix w xs) → independent (8 * w) HP' ≡ false
  front_dependent d =
      sym (independent_same (8 * w) (matrix w xs) HP' front_same) ∙ dependent_found (8 * w) (matrix w xs) d

  -- a pivot in each column
  pub front_independent : (c : ℕ) (B : Matrix) → c ≡ 8 * w → PartDone (8 * w) (8 * w) c (matrix w xs) B → independent (8 * w) HP' ≡ true
  front_independent c B q d =
      let P : ℕ → Type 0 = λ x. PartDone (8 * w) (8 * w) x (matrix w xs) B in
      let done : P (8 * w) = subst P q d in
      sym (independent_same (8 * w) (matrix w xs) HP' front_same)
      ∙ independent_found (8 * w) (matrix w xs) (injective (8 * w) (8 * w) (matrix w xs) B (omega arith, (done.kernel, done.units)))
