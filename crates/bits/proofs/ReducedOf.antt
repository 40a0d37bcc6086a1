-- The matrix M of a reduced row echelon form [I | M] is a function of the matrix that has this form.
use Rattle.std.proofs.Common.{◌≡◌, ℕ, ◌+◌, ◌<◌, sym, refl, ◌∙◌, arith}
use Rattle.bits.specs.Vectors.{Vector, Matrix, times, systematic}
use Rattle.bits.specs.Kernels.{Same, Echelon}
use Rattle.bits.specs.Solutions.{selects, solution}
use Rattle.bits.specs.Reduced.{reduced_of}
use Rattle.bits.proofs.Sums.{dot_same}
use Rattle.bits.proofs.Reduction.{injective_same, back_column}
use Rattle.bits.proofs.Solutions.{selects_is, is_selects, selects_same, some_selects, solution_passes, solution_same}

-- what solves the equations of one column
pub reduced_solves :
    (r : ℕ) (A : Matrix) (j : ℕ) (x : Vector) → ((i : ℕ) → i < r → times r A x i ≡ A i (r + j))
    → (i : ℕ) → i < r → times r A (λ k. reduced_of r A k j) i ≡ A i (r + j)
unfolding reduced_of
reduced_solves r A j x h =
    let v : Vector = λ k. A k (r + j) in
    selects_is r r A v (solution r (selects r r A v))
    (solution_passes r (selects r r A v) (some_selects r r A v x (is_selects r r A v x h)))

pub reduced_is : (r k : ℕ) (A M : Matrix) → Echelon r k A M → (i j : ℕ) → i < r → j < k → M i j ≡ reduced_of r A i j
reduced_is r k A M h i j l m =
    injective_same r A h.injective (λ k. M k j) (λ k. reduced_of r A k j) (λ q p. here q p ∙ sym (reduced_solves r A j (λ k. M k j) here q p)) i l where
      here : (q : ℕ) → q < r → times r A (λ k. M k j) q ≡ A q (r + j)
      here q p =
          dot_same r (A q) (A q) (λ k. M k j) (λ k. systematic r M k (r + j)) (λ s t. refl) (λ s t. sym (back_column r M s j))
          ∙ h.back q (r + j) p (omega arith)

-- it looks at the r rows and r + k columns alone
pub reduced_same : (r k : ℕ) (A B : Matrix) → Same r (r + k) A B → (i j : ℕ) → j < k → reduced_of r A i j ≡ reduced_of r B i j
unfolding reduced_of
reduced_same r k A B s i j l =
    solution_same r (selects r r A (λ k. A k (r + j))) (selects r r B (λ k. B k (r + j)))
    (λ z. selects_same r r A B (λ k. A k (r + j)) (λ k. B k (r + j)) z z (λ p q t u. s p q t (omega arith)) (λ p t. sym (s p (r + j) t (omega arith))) (λ p t. refl)) i
