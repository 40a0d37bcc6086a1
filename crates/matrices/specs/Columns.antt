-- Columns that are filled from numbers.
use Rattle.std.specs.Prelude.{◌≡◌, ℕ, ◌-◌, ◌/◌, ◌%◌, ◌^◌, ◌<◌, Bool, ◌&&◌, List, ◌==◌, nat_le, nat_lt, slice_index}
use Rattle.bits.specs.Vectors.{◌⊕◌, Vector, Matrix}

-- bit i of a number has the weight 2 ^ i
unfoldable pub number_bit : ℕ → ℕ → Bool
number_bit x i = x / 2 ^ i % 2 == 1

-- the bits of numbers, w of each, one number after the other
unfoldable pub bits_of : ℕ → List ℕ → Vector
bits_of w c i = number_bit (slice_index c (i / w)) (i % w)

-- C is B, of n columns, with b added in a row and a column
abbrev pub EntryAdded : ℕ → ℕ → ℕ → Bool → Matrix → Matrix → Type 0
EntryAdded n row col b B C = (i j : ℕ) → j < n → C i j ≡ (B i j ⊕ (i == row && (j == col && b)))

-- C is B, of n columns, with v added to a column in the rows from `from` to `to`, of which the first takes v's first bit
abbrev pub ColumnAdded : ℕ → ℕ → ℕ → ℕ → Vector → Matrix → Matrix → Type 0
ColumnAdded from to n col v B C =
    (i j : ℕ) → j < n → C i j ≡ (B i j ⊕ ((nat_le from i && nat_lt i to) && (j == col && v (i - from))))
