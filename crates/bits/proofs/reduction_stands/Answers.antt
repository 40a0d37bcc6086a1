use Rattle.bits.proofs.Reduction.{product_back, column_back, injective, only_one, only_body, no_pivot}
use Rattle.bits.proofs.ReducedOf.{reduced_is}
use Rattle.bits.proofs.Existence.{reduced_exists}
use Rattle.bits.proofs.reduction_stands.Goals as goal

pub returns : goal.returns
returns c =
    record {
      product = product_back;
      column = column_back;
      injective = injective;
      only = only_one;
      body = only_body;
      dependent = no_pivot;
      once = reduced_is;
      exists = reduced_exists;
    }
