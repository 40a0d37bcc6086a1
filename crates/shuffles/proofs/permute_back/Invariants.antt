use Rattle.std.proofs.Common.{length}
use Rattle.bits.specs.Packed.{vector, Bytes}
use Rattle.shuffles.specs.Orders.{perm_inv}
use Rattle.shuffles.proofs.Orders.{Filled}
use Rattle.shuffles.proofs.permute_back.Given as goal

abbrev pub invariant-loop-j : goal.invariant-loop-j
invariant-loop-j l =
    Filled (length l.order) (λ i. i) (perm_inv l.order (vector l.v)) l.j l.out × Bytes l.out
