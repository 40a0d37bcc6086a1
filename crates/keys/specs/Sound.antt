-- When a written secret key is sound: it passes six tests, and the first that fails names part and place. Each test runs over all
-- its places before the next one begins.
use Rattle.std.specs.Prelude.{◌≡◌, ℕ, ◌+◌, ◌^◌, Bool, not, ◌||◌, List, [], ◌∷◌, take, Ok, ◌==◌, nat_lt}
use Rattle.levels.specs.declared.Sizes.{Sizes}
use Rattle.levels.specs.declared.faults.Defect.{Defect}
use Rattle.levels.specs.declared.faults.Defect.TheVariants.{Support, Coefficient, Clash, Zeros, Matrix, Rank}
use Rattle.levels.specs.declared.faults.Fault.TheVariants.{Unsound}
use Rattle.levels.specs.Rows.{Row, row, answer}
use Rattle.algebra.specs.Field.{Ops, Places}
use Rattle.polys.specs.Values.{value}
use Rattle.bits.specs.Vectors.{◌⊕◌, weight}
use Rattle.bits.specs.Words.{word}
use Rattle.bits.specs.Search.{first_place}
use Rattle.bits.specs.Rank.{rank_of}
use Rattle.shuffles.specs.Orders.{among}
use Rattle.keys.specs.Secret.{support_in, goppa_in, matrix_in, mixed_in}

-- a number is the place of no element of a field of 2^m
abbrev pub no_place : ℕ → ℕ → Bool
no_place m x = not (nat_lt x (2 ^ m))

-- a polynomial is zero at the element with place x; zero itself has the place 0
abbrev pub zero_at : {A : Type 0} {m : ℕ} → Ops A → Places A m → List ℕ → ℕ → Bool
zero_at f pl g x = pl.num (value f pl g (pl.at x)) == 0

-- a test of n places: the first bad one is named
abbrev pub place_row : ℕ → (ℕ → Bool) → (ℕ → Defect) → Row
place_row n bad defect = row (nat_lt (first_place n bad) n) (Unsound (defect (first_place n bad)))

-- a test by a number: it is named where it is not the one that it should be
abbrev pub number_row : ℕ → ℕ → (ℕ → Defect) → Row
number_row is should defect = row (not (is == should)) (Unsound (defect is))

-- each support entry is a place and differs from all earlier ones
abbrev pub support_row : ℕ → Sizes → List ℕ → Row
support_row m s key = place_row s.n (λ j. no_place m (word key j) || among (take j (support_in s key)) (word key j)) Support

-- each coefficient is a place
abbrev pub coefficient_row : ℕ → Sizes → List ℕ → Row
coefficient_row m s key = place_row s.t (λ i. no_place m (word key (s.n + i))) Coefficient

-- no support entry is a zero of g
abbrev pub clash_row : {A : Type 0} {m : ℕ} → Ops A → Places A m → Sizes → List ℕ → Row
clash_row f pl s key = place_row s.n (λ j. zero_at f pl (goppa_in f pl s key) (word key j)) Clash

-- g has t different zeros in the field
abbrev pub zeros_row : {A : Type 0} {m : ℕ} → Ops A → Places A m → Sizes → List ℕ → Row
zeros_row {m = m} f pl s key = number_row (weight (2 ^ m) (zero_at f pl (goppa_in f pl s key))) s.t Zeros

-- the written matrix is the front of HP
abbrev pub matrix_row : {A : Type 0} {m : ℕ} → Ops A → Places A m → Sizes → List ℕ → Row
matrix_row f pl s key =
    place_row s.rows (λ i. not (weight s.rows (λ j. matrix_in s key i j ⊕ mixed_in f pl s key i j) == 0)) Matrix

-- it is invertible
abbrev pub rank_row : Sizes → List ℕ → Row
rank_row s key = number_row (rank_of s.rows (matrix_in s key) s.rows) s.rows Rank

abbrev pub sound_rows : {A : Type 0} {m : ℕ} → Ops A → Places A m → Sizes → List ℕ → List Row
sound_rows {m = m} f pl s key =
    support_row m s key
    ∷ coefficient_row m s key
    ∷ clash_row f pl s key
    ∷ zeros_row f pl s key
    ∷ matrix_row f pl s key
    ∷ rank_row s key
    ∷ []

abbrev pub Sound : {A : Type 0} {m : ℕ} → Ops A → Places A m → Sizes → List ℕ → Type 0
Sound f pl s key = answer (sound_rows f pl s key) ≡ Ok tt
