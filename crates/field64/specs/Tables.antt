-- The field of 64: its product, and the tables of powers and logarithms of z.
use Rattle.std.specs.Prelude.{List, [], ◌∷◌, ℕ, zero, suc, ◌+◌, ◌-◌, ◌*◌, ◌/◌, ◌%◌, get_or}
use Rattle.algebra.specs.Shifts.{times_bits}

-- the product, reduced by z^6 + z + 1
unfoldable pub mul64 : ℕ → ℕ → ℕ
mul64 a b = times_bits 5 3 6 a b

abbrev pub powers : List ℕ
powers = 1 ∷ 2 ∷ 4 ∷ 8 ∷ 16 ∷ 32 ∷ 3 ∷ 6 ∷ 12 ∷ 24 ∷ 48 ∷ 35 ∷ 5 ∷ 10 ∷ 20 ∷ 40 ∷ 19 ∷ 38 ∷ 15 ∷ 30 ∷ 60 ∷ 59 ∷ 53 ∷ 41 ∷ 17 ∷ 34 ∷ 7 ∷ 14 ∷ 28 ∷ 56 ∷ 51 ∷ 37 ∷ 9 ∷ 18 ∷ 36 ∷ 11 ∷ 22 ∷ 44 ∷ 27 ∷ 54 ∷ 47 ∷ 29 ∷ 58 ∷ 55 ∷ 45 ∷ 25 ∷ 50 ∷ 39 ∷ 13 ∷ 26 ∷ 52 ∷ 43 ∷ 21 ∷ 42 ∷ 23 ∷ 46 ∷ 31 ∷ 62 ∷ 63 ∷ 61 ∷ 57 ∷ 49 ∷ 33 ∷ []

abbrev pub logs : List ℕ
logs = 0 ∷ 0 ∷ 1 ∷ 6 ∷ 2 ∷ 12 ∷ 7 ∷ 26 ∷ 3 ∷ 32 ∷ 13 ∷ 35 ∷ 8 ∷ 48 ∷ 27 ∷ 18 ∷ 4 ∷ 24 ∷ 33 ∷ 16 ∷ 14 ∷ 52 ∷ 36 ∷ 54 ∷ 9 ∷ 45 ∷ 49 ∷ 38 ∷ 28 ∷ 41 ∷ 19 ∷ 56 ∷ 5 ∷ 62 ∷ 25 ∷ 11 ∷ 34 ∷ 31 ∷ 17 ∷ 47 ∷ 15 ∷ 23 ∷ 53 ∷ 51 ∷ 37 ∷ 44 ∷ 55 ∷ 40 ∷ 10 ∷ 61 ∷ 46 ∷ 30 ∷ 50 ∷ 22 ∷ 39 ∷ 43 ∷ 29 ∷ 60 ∷ 42 ∷ 21 ∷ 20 ∷ 59 ∷ 57 ∷ 58 ∷ []

-- 63 less the logarithm
unfoldable pub inv64 : ℕ → ℕ
inv64 a = get_or powers ((63 - get_or logs a 0) % 63) 0

-- half the logarithm where that is even, else half of it and 63
unfoldable pub root64 : ℕ → ℕ
root64 zero = 0
root64 (suc a) = get_or powers ((get_or logs (suc a) 0 + get_or logs (suc a) 0 % 2 * 63) / 2 % 63) 0
