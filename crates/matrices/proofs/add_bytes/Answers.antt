use Rattle.std.proofs.Common.{◌≡◌, ◌+◌, ◌-◌, ◌*◌, ◌/◌, length, arith}
use Rattle.matrices.proofs.Additions.{lanes_more, rest_more}
use Rattle.matrices.proofs.add_bytes.Goals as goal

pub loop-i-preserved : goal.loop-i-preserved
loop-i-preserved c =
    let e : 16 * (c.loop-i.i + 1) ≡ 16 * c.loop-i.i + 16 = omega arith in
    rw e (lanes_more 16 (16 * c.loop-i.i) c.args.into.now c.args.from.now c.loop-i.into (omega arith) (omega arith) c.loop-i.invariant)

pub returns : goal.returns
returns c k l =
    let a = 16 * (length c.args.into.now / 16) in
    let e : c.loop-i.i ≡ length c.args.into.now / 16 = omega arith in
    rest_more (length c.loop-i.into - a) (length c.args.from.now - a) a c.args.into.now c.args.from.now c.loop-i.into c.add_rest.new.into (omega arith) (omega arith)
    (omega arith) (rw e at c.loop-i.invariant) (λ q m. c.add_rest.ensures q (omega arith)) k (omega arith)
