-- The packing of bits into bytes. Bit j of a vector lies in byte j div 8, and every vector, row and matrix goes through
-- `power_of`, which alone says where in its byte a bit lies.
use Rattle.std.specs.Prelude.{◌≡◌, ℕ, zero, suc, ◌+◌, ◌-◌, ◌*◌, ◌/◌, ◌%◌, ◌^◌, ◌<◌, Bool, cond, ◌&&◌, List, map, ◌==◌, slice_index}
use Rattle.std.specs.List.{range_with_len}
use Rattle.bits.specs.Vectors.{◌⊕◌, Vector, Matrix}

-- bit k of a byte has the weight 2 ^ power_of k
abbrev pub power_of : ℕ → ℕ
power_of k = 7 - k

-- bit k of a byte
unfoldable pub bit_of : ℕ → ℕ → Bool
bit_of b k = b / 2 ^ power_of k % 2 == 1

-- the vector that bytes hold
unfoldable pub vector : List ℕ → Vector
vector bs j = bit_of (slice_index bs (j / 8)) (j % 8)

-- the matrix that bytes hold, row after row, with w bytes to a row
unfoldable pub matrix : ℕ → List ℕ → Matrix
matrix w bs i = λ j. bit_of (slice_index bs (i * w + j / 8)) (j % 8)

-- the weights of the first k bits of a byte that are ones
unfoldable pub weights : ℕ → Vector → ℕ
weights zero f = 0
weights (suc k) f = weights k f + cond (f k) (2 ^ power_of k) 0

-- the q bytes that hold the first 8 q bits of a vector
unfoldable pub packed : ℕ → Vector → List ℕ
packed q v = map (λ i. weights 8 (λ k. v (8 * i + k))) (range_with_len 0 q)

-- all are bytes
abbrev pub Bytes : List ℕ → Type 0
Bytes bs = (k : ℕ) → slice_index bs k < 256

-- ys holds the vector of xs, with b added at place j
abbrev pub BitAdded : ℕ → Bool → List ℕ → List ℕ → Type 0
BitAdded j b xs ys = (i : ℕ) → vector ys i ≡ (vector xs i ⊕ (i == j && b))
