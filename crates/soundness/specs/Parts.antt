-- The parts of the tests of a written key.
use Rattle.std.specs.Prelude.{ℕ, ◌+◌, List, [], ◌∷◌, map}
use Rattle.std.specs.List.{range_with_len}
use Rattle.levels.specs.declared.Sizes.{Sizes}
use Rattle.levels.specs.Rows.{Row}
use Rattle.algebra.specs.Field.{Ops, Places}
use Rattle.bits.specs.Words.{word}
use Rattle.keys.specs.Sound.{support_row, coefficient_row, clash_row, zeros_row, matrix_row, rank_row}

-- n of the numbers that a key holds, from one on
unfoldable pub words_from : List ℕ → ℕ → ℕ → List ℕ
words_from key from n = map (λ i. word key (from + i)) (range_with_len 0 n)

-- the tests of the support and the polynomial g
abbrev pub code_rows : {A : Type 0} {m : ℕ} → Ops A → Places A m → Sizes → List ℕ → List Row
code_rows {m = m} f pl s key = support_row m s key ∷ coefficient_row m s key ∷ clash_row f pl s key ∷ zeros_row f pl s key ∷ []

-- the tests of the matrix
abbrev pub matrix_rows : {A : Type 0} {m : ℕ} → Ops A → Places A m → Sizes → List ℕ → List Row
matrix_rows f pl s key = matrix_row f pl s key ∷ rank_row s key ∷ []
