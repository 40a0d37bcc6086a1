use Rattle.std.proofs.Common.{refl}
use Rattle.bits.proofs.Reduction.{not_both}
use Rattle.bits.proofs.Decision.{independent_found, dependent_found, independent_same}
use Rattle.bits.proofs.Rank.{ranked_once, full_rank, small_rank}
use Rattle.bits.proofs.RankOf.{rank_is}
use Rattle.bits.proofs.rank_stands.Goals as goal

pub returns : goal.returns
returns c =
    record {
      differ = not_both;
      decided = λ r A. (independent_found r A, dependent_found r A);
      front = independent_same;
      once = λ r n k l A h g. ranked_once h g;
      number = rank_is;
      full = λ r A h z. full_rank h refl z;
      small = λ r k A h l. small_rank h l;
    }
