-- Rows of bytes, and what operations on them leave.
use Rattle.std.specs.Prelude.{◌≡◌, ℕ, ◌+◌, ◌*◌, ◌<◌, ◌≤◌, true, false, ◌⊎◌, List, length, MatchResult, Result, bit_xor, slice_index}
use Rattle.bits.specs.Packed.{matrix}
use Rattle.bits.specs.Elimination.{Settled}

-- row i, of w bytes, lies within the bytes
abbrev pub RowWithin : ℕ → ℕ → List ℕ → Type 0
RowWithin w i bs = i * w + w ≤ length bs

-- r rows lie within the bytes, column c within a row, and row k is one of them or the first past them
pub record PlaceWithin (w r k c : ℕ) (bs : List ℕ) : Type 0 where
  pub rows : r * w ≤ length bs
  pub row : k ≤ r
  pub column : c < 8 * w

-- n places from a on and n from b on have none in common
abbrev pub Apart : ℕ → ℕ → ℕ → Type 0
Apart n a b = (a + n ≤ b) ⊎ (b + n ≤ a)

-- ys is xs, with the n bytes from `from` on added to those from `into` on
pub record Summed (n into from : ℕ) (xs ys : List ℕ) : Type 0 where
  pub done : (k : ℕ) → k < n → slice_index ys (into + k) ≡ bit_xor (slice_index xs (into + k)) (slice_index xs (from + k))
  pub before : (k : ℕ) → k < into → slice_index ys k ≡ slice_index xs k
  pub after : (k : ℕ) → into + n ≤ k → slice_index ys k ≡ slice_index xs k

-- zs is ys, with the n bytes from `to` on those of xs from `from` on
pub record Copied (n from to : ℕ) (xs ys zs : List ℕ) : Type 0 where
  pub done : (k : ℕ) → k < n → slice_index zs (to + k) ≡ slice_index xs (from + k)
  pub before : (k : ℕ) → k < to → slice_index zs k ≡ slice_index ys k
  pub after : (k : ℕ) → to + n ≤ k → slice_index zs k ≡ slice_index ys k

-- each of the first r rows of zs has the s bytes from `skip` on of the same row of xs, of w bytes; past them are the bytes of ys
pub record ColumnsCopied (w s skip r : ℕ) (xs ys zs : List ℕ) : Type 0 where
  pub columns : (i j : ℕ) → i < r → j < 8 * s → matrix s zs i j ≡ matrix w xs i (8 * skip + j)
  pub rest : (k : ℕ) → r * s ≤ k → slice_index zs k ≡ slice_index ys k

-- row p is the first of r from k on that has a one in column c
abbrev pub PivotAt : ℕ → ℕ → ℕ → ℕ → ℕ → List ℕ → Type 0
PivotAt w r k c p bs = (k ≤ p) × (p < r) × (matrix w bs p c ≡ true) × ((i : ℕ) → k ≤ i → i < p → matrix w bs i c ≡ false)

-- a row p from k on has a one in column c of xs, and ys has the column settled; or there is none, and ys is xs
abbrev pub SettledOrNone : {E : Type 0} → Result (Unit {0}) E → ℕ → ℕ → ℕ → ℕ → List ℕ → List ℕ → Type 0
SettledOrNone o w r k c xs ys =
    MatchResult o
    (λ _. ((p : ℕ) × ((k ≤ p) × (p < r) × (matrix w xs p c ≡ true))) × Settled r (8 * w) k c (matrix w xs) (matrix w ys))
    (λ _. (ys ≡ xs) × ((i : ℕ) → k ≤ i → i < r → matrix w xs i c ≡ false))
