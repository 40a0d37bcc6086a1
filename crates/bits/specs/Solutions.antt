-- Systems of linear equations over the field of two elements, and their first solutions.
use Rattle.std.specs.Prelude.{ℕ, zero, suc, Bool, false, cond, ◌==◌, nat_eq}
use Rattle.bits.specs.Vectors.{◌⊕◌, Vector, Matrix, times, weight}
use Rattle.bits.specs.Kernels.{some_vector}

-- x selects the first n columns of the r rows of A to v
unfoldable pub selects : ℕ → ℕ → Matrix → Vector → Vector → Bool
selects r n A v x = weight r (λ i. times n A x i ⊕ v i) == 0

-- the first vector without ones from n on that passes a test, in the order in which `some_vector` tries them, or the last one
unfoldable pub solution : ℕ → (Vector → Bool) → Vector
solution zero p = λ _. false
solution (suc n) p = cond (some_vector n p) (solution n p) (λ j. solution n (λ z. p (λ k. z k ⊕ nat_eq k n)) j ⊕ nat_eq j n)
