use Rattle.std.proofs.Common.{arith}
use Rattle.sha3.specs.Blocks.{squeezed_all}
use Rattle.sha3.proofs.sponge.squeeze.Goals as goal

pub returns : goal.returns
returns c = squeezed_all c.args.a.now c.loop-i.out (omega arith) c.loop-i.invariant.0 (λ k h. c.loop-i.invariant.1 k (omega arith))
