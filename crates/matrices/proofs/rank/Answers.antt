use Rattle.std.proofs.Common.{◌*◌}
use Rattle.bits.specs.Kernels.{Ranked}
use Rattle.bits.specs.Packed.{matrix}
use Rattle.bits.proofs.Rank.{ranked_once, square_rank}
use Rattle.bits.proofs.RankOf.{ranked_is}
use Rattle.matrices.proofs.rank.Goals as goal

pub returns : goal.returns
returns c =
    let A = matrix c.args.width c.args.m.now in
    let k = c.count_pivots.result in
    let h : Ranked c.args.rows A (8 * c.args.width) k = c.count_pivots.ensures in
    record {
      value = h;
      number = ranked_is c.args.rows (8 * c.args.width) k A h;
      only = λ l g. ranked_once g h;
      square = λ s. square_rank c.args.rows k A (rw (← s) at h);
    }
