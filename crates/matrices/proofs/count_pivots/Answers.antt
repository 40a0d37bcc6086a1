use Rattle.std.proofs.Common.{◌*◌, sym, ◌∙◌, arith}
use Rattle.bits.proofs.Rank.{rank_none, rank_skip, rank_more}
use Rattle.bits.specs.Packed.{matrix}
use Rattle.matrices.proofs.Outcomes.{when_settled, when_none}
use Rattle.matrices.proofs.count_pivots.Goals as goal
use Rattle.matrices.proofs.count_pivots.Goals.{then-is_ok, else-is_ok}

pub loop-c-init : goal.loop-c-init
loop-c-init c = (omega arith, rank_none c.args.rows (8 * c.args.width) (matrix c.args.width c.args.m.now))

pub loop-c-preserved : goal.loop-c-preserved
loop-c-preserved c =
    let A = matrix c.args.width c.args.m.now in
    let B = matrix c.args.width c.loop-c.m in
    elim c.if-is_ok.branch [
      | then-is_ok w ↦
          let s = when_settled c.args.width c.args.rows c.loop-c.k c.loop-c.c c.loop-c.m c.settle.new.m c.settle.result c.settle.ensures (sym c.is_ok.ensures.value ∙ w.if-is_ok.true) in
          simp w.k-is (
            omega arith,
            rank_more c.args.rows (8 * c.args.width) c.loop-c.c c.loop-c.k s.0.0 A B (matrix c.args.width c.settle.new.m)
                (omega arith) s.0.1.0 s.0.1.1 c.loop-c.invariant.1 s.0.1.2 s.1,
          )
      | else-is_ok w ↦
          let s = when_none c.args.width c.args.rows c.loop-c.k c.loop-c.c c.loop-c.m c.settle.new.m c.settle.result c.settle.ensures (sym c.is_ok.ensures.value ∙ w.if-is_ok.false) in
          simp (w.k-is, s.0) (
            omega arith,
            rank_skip c.args.rows (8 * c.args.width) c.loop-c.c c.loop-c.k A B (omega arith) c.loop-c.invariant.1 s.1,
          )
    ]
