use Rattle.std.proofs.Common.{length}
use Rattle.bits.specs.Packed.{vector, Bytes}
use Rattle.shuffles.specs.Orders.{place_of, perm}
use Rattle.shuffles.proofs.Orders.{Filled}
use Rattle.shuffles.proofs.permute.Given as goal

abbrev pub invariant-loop-j : goal.invariant-loop-j
invariant-loop-j l =
    Filled (length l.order) (place_of l.order) (perm l.order (vector l.v)) l.j l.out × Bytes l.out
