-- The worked examples are computed.
use Rattle.std.proofs.Common.{refl}
use Rattle.bits.specs.Packed.{weights, packed}
use Rattle.shuffles.specs.Orders.{order, place_of, among}
use Rattle.worked.specs.Examples.{Examples}

pub examples : Examples
unfolding weights packed order place_of among
examples =
    record {
      shuffle_zero = refl;
      shuffle_words = refl;
      perm_first = refl;
      perm_inv_first = refl;
      error_zero = refl;
    }
