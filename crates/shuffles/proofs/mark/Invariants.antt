use Rattle.std.proofs.Common.{true, length}
use Rattle.bits.specs.Packed.{Bytes}
use Rattle.shuffles.specs.Orders.{place_of}
use Rattle.shuffles.proofs.Orders.{Filled}
use Rattle.shuffles.proofs.mark.Given as goal

abbrev pub invariant-loop-p : goal.invariant-loop-p
invariant-loop-p l =
    Filled (length l.order) (place_of l.order) (λ _. true) l.p-index l.out × Bytes l.out
