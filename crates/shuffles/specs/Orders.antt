-- The order of the positions by a seed, and what is built of it.
use Rattle.std.specs.Prelude.{◌≡◌, ℕ, suc, ◌<◌, false, cond, ◌||◌, List, [], ◌∷◌, length, take, ◌==◌, slice_index}
use Rattle.std.specs.List.{range_with_len}
use Rattle.bits.specs.Vectors.{Vector}
use Rattle.shuffles.specs.Shuffle.{shuffled}

-- l_0 to l_(n-1): the shuffle of 0 to n - 1
unfoldable pub order : ℕ → List ℕ → List ℕ
order n seed = shuffled seed (range_with_len 0 n)

-- l lists the numbers below n, each once
pub record Permutation (n : ℕ) (l : List ℕ) : Type 0 where
  pub long : length l ≡ n
  pub below : (j : ℕ) → j < n → slice_index l j < n
  pub different : (i j : ℕ) → i < n → j < n → slice_index l i ≡ slice_index l j → i ≡ j
  pub reached : (i : ℕ) → i < n → (j : ℕ) × (j < n) × (slice_index l j ≡ i)

-- the first place in l at which i stands
unfoldable pub place_of : List ℕ → ℕ → ℕ
place_of [] i = 0
place_of (x ∷ l) i = cond (x == i) 0 (suc (place_of l i))

-- Perm puts entry j of a vector at place l_j
abbrev pub perm : List ℕ → Vector → Vector
perm l v i = v (place_of l i)

-- PermInv puts entry l_j at place j
abbrev pub perm_inv : List ℕ → Vector → Vector
perm_inv l v j = v (slice_index l j)

-- whether a list has a number
unfoldable pub among : List ℕ → Vector
among [] i = false
among (x ∷ l) i = i == x || among l i

-- the error vector of a seed has ones at l_0 to l_(t-1), and zeros elsewhere
abbrev pub error_vector_of : ℕ → ℕ → List ℕ → Vector
error_vector_of n t seed = among (take t (order n seed))

-- two vectors agree below n
abbrev pub SameBits : ℕ → Vector → Vector → Type 0
SameBits n v w = (i : ℕ) → i < n → v i ≡ w i
