-- The worked examples of the two fields, of polynomials and of columns.
use Rattle.std.specs.Prelude.{◌≡◌, ℕ, List, [], ◌∷◌, map}
use Rattle.std.specs.List.{range_with_len}
use Rattle.algebra.specs.Field.{Ops}
use Rattle.field64.specs.Model.{at64, ops64, places64}
use Rattle.field8192.specs.Model.{at8192, ops8192, places8192}
use Rattle.polys.specs.Coefs.{coefs}
use Rattle.goppa.specs.Zeros.{from_zeros}
use Rattle.goppa.specs.Matrix.{column_place}

-- y is a square root of x, and x has no other
abbrev pub OneRoot : {A : Type 0} → Ops A → A → A → Type 0
OneRoot {A} f x y = (f.mul y y ≡ x) × ((z : A) → f.mul z z ≡ x → z ≡ y)

-- the coefficients of X² + 3X + 2, that of X^0 first
abbrev pub quadratic : List ℕ
quadratic = 2 ∷ 3 ∷ 1 ∷ []

pub record FieldExamples : Type 0 where
  -- in the field of 8,192, 4,096 × 2 = 225 and 4,096 × 4,096 = 7,480
  pub product_8192 : ops8192.mul (at8192 4096) (at8192 2) ≡ at8192 225
  pub square_8192 : ops8192.mul (at8192 4096) (at8192 4096) ≡ at8192 7480
  -- the square root of 7,480 there is 4,096, and the inverse of 2 is 4,208
  pub root_8192 : OneRoot ops8192 (at8192 7480) (at8192 4096)
  pub inverse_8192 : ops8192.inv (at8192 2) ≡ at8192 4208
  -- in the field of 64, 32 × 2 = 3, 32 × 32 = 48, and the inverse of 2 is 33
  pub product_64 : ops64.mul (at64 32) (at64 2) ≡ at64 3
  pub square_64 : ops64.mul (at64 32) (at64 32) ≡ at64 48
  pub inverse_64 : ops64.inv (at64 2) ≡ at64 33
  -- (X − 1)(X − 2) = X² + 3X + 2 in both fields
  pub quadratic_8192 : from_zeros ops8192 (at8192 1 ∷ at8192 2 ∷ []) ≡ coefs places8192 quadratic
  pub quadratic_64 : from_zeros ops64 (at64 1 ∷ at64 2 ∷ []) ≡ coefs places64 quadratic
  -- for it, over the field of 64, the column of element 0 is (32, 33)
  pub column_zero : map (column_place ops64 places64 2 quadratic 0) (range_with_len 0 2) ≡ 32 ∷ 33 ∷ []
