-- 16-bit numbers in bytes, the high byte first.
use Rattle.std.specs.Prelude.{ℕ, ◌+◌, ◌*◌, ◌/◌, ◌%◌, List, [], ◌∷◌, slice_index}

-- number i of those that bytes hold
abbrev pub word : List ℕ → ℕ → ℕ
word bs i = 256 * slice_index bs (2 * i) + slice_index bs (2 * i + 1)

-- the bytes that hold numbers
unfoldable pub word_bytes : List ℕ → List ℕ
word_bytes [] = []
word_bytes (x ∷ xs) = x / 256 ∷ x % 256 ∷ word_bytes xs
