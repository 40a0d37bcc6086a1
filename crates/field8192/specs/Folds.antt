-- The product as the code computes it: from the highest bit of b on, three bits at a time, folded down each time.
use Rattle.std.specs.Prelude.{ℕ, zero, suc, ◌-◌, ◌*◌, ◌/◌, ◌%◌, ◌^◌, bit_xor}

-- a times the lowest n bits of b, not reduced
unfoldable pub carryless_bits : ℕ → ℕ → ℕ → ℕ
carryless_bits zero a b = 0
carryless_bits (suc n) a b = bit_xor (carryless_bits n a b) (b / 2 ^ n % 2 * (a * 2 ^ n))

-- the bits from 13 on, by z^13 = z^7 + z^6 + z^5 + 1
abbrev pub folded : ℕ → ℕ
folded t = bit_xor (bit_xor (bit_xor (bit_xor (t % 8192) (t / 8192)) (t / 8192 * 32)) (t / 8192 * 64)) (t / 8192 * 128)

-- a times the highest 1 + 3·n of the 13 bits of b
unfoldable pub grouped : ℕ → ℕ → ℕ → ℕ
grouped zero a b = b / 4096 % 2 * a
grouped (suc n) a b = folded (bit_xor (grouped n a b * 8) (carryless_bits 3 a (b / 2 ^ (9 - 3 * n))))
