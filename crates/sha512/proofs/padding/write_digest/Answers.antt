use Rattle.std.proofs.Common.{arith}
use Rattle.sha512.specs.Blocks.{digest_all}
use Rattle.sha512.proofs.padding.write_digest.Goals as goal

pub returns : goal.returns
returns c = digest_all c.args.h.now c.loop-i.out (omega arith) c.loop-i.invariant.0 (λ k h. c.loop-i.invariant.1 k (omega arith))
