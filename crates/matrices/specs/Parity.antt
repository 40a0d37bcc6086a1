-- The sum of the bits of a byte.
use Rattle.std.specs.Prelude.{ℕ, Bool, true}
use Rattle.bits.specs.Vectors.{dot}
use Rattle.bits.specs.Packed.{bit_of}

unfoldable pub parity_of : ℕ → Bool
parity_of b = dot 8 (bit_of b) (λ _. true)
