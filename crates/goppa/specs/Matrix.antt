-- The check matrix H of a code, and its columns in another order.
use Rattle.std.specs.Prelude.{ℕ, ◌/◌, ◌%◌, List, slice_index}
use Rattle.algebra.specs.Field.{Ops, Places}
use Rattle.polys.specs.Coefs.{coefs}
use Rattle.polys.specs.Values.{value}
use Rattle.bits.specs.Vectors.{Vector, Matrix}
use Rattle.matrices.specs.Columns.{number_bit}
use Rattle.goppa.specs.Columns.{over_coefficient}

-- the coefficient of X^r of the column of an element, each by its place; g has the coefficients up to X^t
unfoldable pub column_place : {A : Type 0} {m : ℕ} → Ops A → Places A m → ℕ → List ℕ → ℕ → ℕ → ℕ
column_place f pl t g x r = pl.num (f.mul (over_coefficient f t (coefs pl g) (pl.at x) r) (f.inv (value f pl g (pl.at x))))

-- the column as bits: m of each coefficient, that of z^0 first
unfoldable pub column_bits : {A : Type 0} {m : ℕ} → Ops A → Places A m → ℕ → List ℕ → ℕ → Vector
column_bits {m = m} f pl t g x i = number_bit (column_place f pl t g x (i / m)) (i % m)

-- HP: column j is that of the entry of the support at place l_j
unfoldable pub mixed_matrix : {A : Type 0} {m : ℕ} → Ops A → Places A m → ℕ → List ℕ → List ℕ → List ℕ → Matrix
mixed_matrix f pl t g support l i j = column_bits f pl t g (slice_index support (slice_index l j)) i
