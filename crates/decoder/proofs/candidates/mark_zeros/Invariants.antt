use Rattle.std.proofs.Common.{◌≡◌, ℕ, ◌<◌, ◌≤◌, false, eqb, get_or}
use Rattle.bits.specs.Packed.{vector}
use Rattle.decoder.proofs.candidates.mark_zeros.Given as goal

abbrev pub invariant-loop-j : goal.invariant-loop-j
invariant-loop-j g l =
    ((i : ℕ) → i < l.j → vector l.out i ≡ eqb (get_or l.v-items i 0) 0) × ((i : ℕ) → l.j ≤ i → vector l.out i ≡ false)
