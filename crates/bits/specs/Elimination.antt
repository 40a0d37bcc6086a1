-- The steps of an elimination, over matrices of r rows and n columns.
use Rattle.std.specs.Prelude.{◌≡◌, ℕ, ◌<◌, ◌≤◌, true, false, ◌==◌, ◌≢◌}
use Rattle.bits.specs.Vectors.{◌⊕◌, Matrix}
use Rattle.bits.specs.Kernels.{SameKernel, Same}

-- B is A with row `from` added to row `into`
abbrev pub Added : ℕ → ℕ → ℕ → Matrix → Matrix → Type 0
Added n from into A B =
    ((i j : ℕ) → j < n → (i ≢ into) → B i j ≡ A i j) × ((j : ℕ) → j < n → B into j ≡ (A into j ⊕ A from j))

-- the rows from k on are 0 before column c
abbrev pub LowRows : ℕ → ℕ → ℕ → Matrix → Type 0
LowRows r k c B = (i j : ℕ) → k ≤ i → i < r → j < c → B i j ≡ false

-- C has the kernel of B, and the same columns before column c
pub record Kept (r n c : ℕ) (B C : Matrix) : Type 0 where
  pub kernel : SameKernel r n B C
  pub columns : Same r c B C

-- and column c has a one in row k
pub record Pivoted (r n k c : ℕ) (B C : Matrix) : Type 0 where
  pub kept : Kept r n c B C
  pub one : C k c ≡ true

-- and in row k alone
pub record Settled (r n k c : ℕ) (B C : Matrix) : Type 0 where
  pub kept : Kept r n c B C
  pub column : (i : ℕ) → i < r → C i c ≡ (i == k)
