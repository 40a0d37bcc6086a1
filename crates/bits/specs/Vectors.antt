-- Vectors over the field of two elements are functions from places to bits, and a matrix gives its rows.
use Rattle.std.specs.Prelude.{ℕ, zero, suc, ◌+◌, ◌-◌, Bool, true, false, cond, not, ◌&&◌, ◌==◌, nat_lt}

infixl 32 ◌⊕◌
-- the sum of two bits
abbrev pub ◌⊕◌ : Bool → Bool → Bool
true ⊕ b = not b
false ⊕ b = b

abbrev pub Vector : Type 0
Vector = ℕ → Bool

-- A i j is the bit in row i and column j
abbrev pub Matrix : Type 0
Matrix = ℕ → ℕ → Bool

-- the sum of a j && x j over the places j below n
unfoldable pub dot : ℕ → Vector → Vector → Bool
dot zero a x = false
dot (suc n) a x = dot n a x ⊕ (a n && x n)

-- A · x, where A has n columns: the sum of the columns that x selects
abbrev pub times : ℕ → Matrix → Vector → Vector
times n A x = λ i. dot n (A i) x

-- [I | M], with r rows and so many columns in I
unfoldable pub systematic : ℕ → Matrix → Matrix
systematic r M i j = cond (nat_lt j r) (i == j) (M i (j - r))

-- the number of ones at the places below n
unfoldable pub weight : ℕ → Vector → ℕ
weight zero v = 0
weight (suc n) v = weight n v + cond (v n) 1 0
