-- Products of polynomials in z over two elements, reduced. Bit i of a number is the coefficient of z^i.
use Rattle.std.specs.Prelude.{ℕ, zero, suc, ◌*◌, ◌/◌, ◌%◌, ◌^◌, bit_xor}

-- z times a, where z^(k + 1) is r
unfoldable pub times_z : ℕ → ℕ → ℕ → ℕ
times_z k r a = bit_xor (a % 2 ^ k * 2) (a / 2 ^ k % 2 * r)

-- a times the lowest n bits of b
unfoldable pub times_bits : ℕ → ℕ → ℕ → ℕ → ℕ → ℕ
times_bits k r zero a b = 0
times_bits k r (suc n) a b = bit_xor (b % 2 * a) (times_bits k r n (times_z k r a) (b / 2))
