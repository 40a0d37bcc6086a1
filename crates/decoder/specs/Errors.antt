-- What decoding finds: the error vector of a syndrome.
use Rattle.std.specs.Prelude.{◌≡◌, ℕ, ◌*◌, ◌<◌, List, length, slice_index}
use Rattle.algebra.specs.Field.{Ops, Places}
use Rattle.bits.specs.Vectors.{Vector, Matrix, weight, times}
use Rattle.goppa.specs.Matrix.{column_bits}

-- the check matrix H: column j is that of entry j of the support
unfoldable pub check_matrix : {A : Type 0} {m : ℕ} → Ops A → Places A m → ℕ → List ℕ → List ℕ → Matrix
check_matrix f pl t g support i j = column_bits f pl t g (slice_index support j) i

-- e is an error vector for the syndrome s: its weight is t, and H·e is s
pub record ErrorOf {A : Type 0} {m : ℕ} (f : Ops A) (pl : Places A m) (t : ℕ) (g support : List ℕ) (s e : Vector) : Type 0 where
  pub weighs : weight (length support) e ≡ t
  pub sums : (i : ℕ) → i < m * t → times (length support) (check_matrix f pl t g support) e i ≡ s i

-- e is the one error vector for s
pub record OnlyError {A : Type 0} {m : ℕ} (f : Ops A) (pl : Places A m) (t : ℕ) (g support : List ℕ) (s e : Vector) : Type 0 where
  pub error : ErrorOf f pl t g support s e
  pub only : (d : Vector) → ErrorOf f pl t g support s d → (j : ℕ) → j < length support → d j ≡ e j

-- there is none
abbrev pub NoError : {A : Type 0} {m : ℕ} → Ops A → Places A m → ℕ → List ℕ → List ℕ → Vector → Type 0
NoError f pl t g support s = (d : Vector) → ErrorOf f pl t g support s d → ⊥
