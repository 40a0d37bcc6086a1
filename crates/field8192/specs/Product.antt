-- The field of 8,192, polynomials in z over two elements modulo z^13 + z^7 + z^6 + z^5 + 1, on numbers: bit i of a number,
-- for i below 13, is the coefficient of z^i. The sum is `bit_xor`.
use Rattle.std.specs.Prelude.{ℕ, zero, suc, ◌%◌}
use Rattle.algebra.specs.Shifts.{times_bits}

-- the product, where z^13 is z^7 + z^6 + z^5 + 1, which is 225
unfoldable pub mul8192 : ℕ → ℕ → ℕ
mul8192 a b = times_bits 12 225 13 (a % 8192) b

unfoldable pub square8192 : ℕ → ℕ
square8192 a = mul8192 a a

-- n squarings: a^(2^n)
unfoldable pub squares : ℕ → ℕ → ℕ
squares zero a = a
squares (suc n) a = square8192 (squares n a)

-- a^(2^n - 1)
unfoldable pub ones : ℕ → ℕ → ℕ
ones zero a = 1
ones (suc n) a = mul8192 a (square8192 (ones n a))

-- a^4096
abbrev pub root8192 : ℕ → ℕ
root8192 a = squares 12 a

-- a^8190, so zero at zero
unfoldable pub inv8192 : ℕ → ℕ
inv8192 a = square8192 (ones 12 a)
