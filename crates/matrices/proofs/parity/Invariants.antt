use Rattle.std.proofs.Common.{◌≡◌, ◌*◌, ◌<◌, length}
use Rattle.bits.specs.Vectors.{dot}
use Rattle.bits.specs.Packed.{vector}
use Rattle.matrices.specs.Parity.{parity_of}
use Rattle.matrices.proofs.parity.Given as goal

abbrev pub invariant-loop-x : goal.invariant-loop-x
invariant-loop-x l = (l.sum < 256) × (parity_of l.sum ≡ dot (8 * length l.yielded) (vector l.row) (vector l.v))
