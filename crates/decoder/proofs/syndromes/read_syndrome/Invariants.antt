use Rattle.std.proofs.Common.{◌≡◌, ℕ, ◌+◌, ◌*◌, ◌^◌, ◌<◌, get_or}
use Rattle.bits.specs.Packed.{vector}
use Rattle.matrices.specs.Columns.{number_bit}
use Rattle.decoder.proofs.syndromes.read_syndrome.Given as goal

abbrev pub invariant-loop-r : goal.invariant-loop-r
invariant-loop-r g l =
    let m = g.F.Field.BITS in
    (j : ℕ) → j < l.r → (get_or l.s j 0 < 2 ^ m) × ((i : ℕ) → i < m → number_bit (get_or l.s j 0) i ≡ vector l.syndrome (m * j + i))
