-- The worked examples of the fields are computed.
use Rattle.std.proofs.Common.{◌≡◌, sym, refl, ◌∙◌}
use Rattle.algebra.specs.Numbers.{within}
use Rattle.algebra.specs.Shifts.{times_z, times_bits}
use Rattle.field64.specs.Tables.{mul64, inv64}
use Rattle.field64.specs.Model.{at64, places64}
use Rattle.field64.specs.Laws.{laws64}
use Rattle.field8192.specs.Product.{mul8192, square8192, ones, inv8192}
use Rattle.field8192.specs.Model.{at8192, ops8192, places8192}
use Rattle.field8192.specs.Laws.{laws8192}
use Rattle.polys.specs.Coefs.{coefs}
use Rattle.polys.specs.Values.{value}
use Rattle.goppa.specs.Matrix.{column_place}
use Rattle.worked.specs.Sheet.{FieldExamples}
use Rattle.worked.proofs.Products.{two_zeros, one_root}

square : ops8192.mul (at8192 4096) (at8192 4096) ≡ at8192 7480
unfolding within mul8192 times_bits times_z
square = refl

pub field_examples : FieldExamples
unfolding within mul64 inv64 mul8192 square8192 ones inv8192 times_bits times_z coefs value column_place
field_examples =
    record {
      product_8192 = refl;
      square_8192 = square;
      root_8192 = (square, λ z e. one_root laws8192 places8192 z (at8192 4096) (e ∙ sym square));
      inverse_8192 = refl;
      product_64 = refl;
      square_64 = refl;
      inverse_64 = refl;
      quadratic_8192 = two_zeros laws8192 places8192 (at8192 1) (at8192 2) 2 3 1 refl refl refl refl;
      quadratic_64 = two_zeros laws64 places64 (at64 1) (at64 2) 2 3 1 refl refl refl refl;
      column_zero = refl;
    }
