-- The rank of a matrix, as a number.
use Rattle.std.specs.Prelude.{ℕ, Bool, not}
use Rattle.bits.specs.Vectors.{Matrix, weight}
use Rattle.bits.specs.Kernels.{some_vector, Ranked}
use Rattle.bits.specs.Solutions.{selects}

-- whether column n of the r rows is a sum of earlier columns
unfoldable pub spans : ℕ → ℕ → Matrix → Bool
spans r n A = some_vector n (selects r n A (λ i. A i n))

-- the number of the first n columns of the r rows that are no sum of earlier ones
unfoldable pub rank_of : ℕ → Matrix → ℕ → ℕ
rank_of r A n = weight n (λ c. not (spans r c A))

-- it is the rank
abbrev pub RankIs : Type 0
RankIs = (r n : ℕ) (A : Matrix) → Ranked r A n (rank_of r A n)
