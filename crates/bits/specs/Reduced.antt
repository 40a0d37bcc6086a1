-- The reduced row echelon form [I | M] of a matrix: M as a function of it.
use Rattle.std.specs.Prelude.{◌≡◌, ℕ, ◌+◌, ◌<◌, true}
use Rattle.bits.specs.Vectors.{Matrix}
use Rattle.bits.specs.Kernels.{independent, Echelon}
use Rattle.bits.specs.Solutions.{selects, solution}

-- column j of M is the vector that the first r columns of A take to column r + j of A
unfoldable pub reduced_of : ℕ → Matrix → Matrix
reduced_of r A i j = solution r (selects r r A (λ k. A k (r + j))) i

-- it is M, of which there is one
abbrev pub ReducedIs : Type 0
ReducedIs = (r k : ℕ) (A M : Matrix) → Echelon r k A M → (i j : ℕ) → i < r → j < k → M i j ≡ reduced_of r A i j

-- and A has this form, if its first r columns are independent
abbrev pub ReducedExists : Type 0
ReducedExists = (r k : ℕ) (A : Matrix) → independent r A ≡ true → Echelon r k A (reduced_of r A)
