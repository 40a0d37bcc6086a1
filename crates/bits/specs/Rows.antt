-- The packing of matrices into bytes, row after row.
use Rattle.std.specs.Prelude.{ℕ, ◌*◌, ◌/◌, ◌%◌, List}
use Rattle.bits.specs.Vectors.{Matrix}
use Rattle.bits.specs.Packed.{packed}

-- the bytes that hold the first r rows of a matrix, w bytes to a row
unfoldable pub matrix_bytes : ℕ → ℕ → Matrix → List ℕ
matrix_bytes r w A = packed (r * w) (λ b. A (b / (8 * w)) (b % (8 * w)))
