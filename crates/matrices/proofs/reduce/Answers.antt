use Rattle.std.proofs.Common.{◌*◌, arith}
use Rattle.std.proofs.lemmas.Result.{err_from_is_err_and}
use Rattle.bits.proofs.Elimination.{done_stuck, done_more}
use Rattle.bits.specs.Packed.{matrix}
use Rattle.matrices.proofs.reduce.Goals as goal

pub returns-in_err-settle : goal.returns-in_err-settle
returns-in_err-settle c =
    let p = err_from_is_err_and c.from_residual.result c.from_residual.ensures.1 in
    rw p.1
    (done_stuck c.args.rows (8 * c.args.width) c.loop-c.c (matrix c.args.width c.args.m.now) (matrix c.args.width c.loop-c.m)
    (omega arith) (omega arith) c.loop-c.invariant c.in_err-settle.ensures.1)

pub loop-c-preserved : goal.loop-c-preserved
loop-c-preserved c =
    done_more c.args.rows (8 * c.args.width) c.loop-c.c (matrix c.args.width c.args.m.now) (matrix c.args.width c.loop-c.m)
    (matrix c.args.width c.settle.new.m) c.loop-c.invariant c.in_ok-settle.ensures.1
