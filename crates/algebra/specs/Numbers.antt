-- A field whose elements are numbered: its operations, from operations on the numbers.
use Rattle.std.specs.Prelude.{◌≡◌, ℕ, ◌^◌, ◌<◌, cond, bit_xor, nat_lt}
use Rattle.algebra.specs.Field.{Ops, Places}

-- a number below b, and 0 in the place of any other
unfoldable pub within : ℕ → ℕ → ℕ
within b n = cond (nat_lt n b) n 0

-- the sum is `bit_xor`, and zero and one are 0 and 1
abbrev pub ops_from : {A : Type 0} {m : ℕ} → Places A m → (ℕ → ℕ → ℕ) → (ℕ → ℕ) → Ops A
ops_from p mul inv = record {
  zero = p.at 0;
  one = p.at 1;
  add = λ x y. p.at (bit_xor (p.num x) (p.num y));
  mul = λ x y. p.at (mul (p.num x) (p.num y));
  inv = λ x. p.at (inv (p.num x));
}

-- the laws, of numbers below 2^m
pub record NumLaws (m : ℕ) (mul : ℕ → ℕ → ℕ) (inv : ℕ → ℕ) : Type 0 where
  pub one_below : 1 < 2 ^ m
  pub mul_below : (a b : ℕ) → a < 2 ^ m → b < 2 ^ m → mul a b < 2 ^ m
  pub inv_below : (a : ℕ) → a < 2 ^ m → inv a < 2 ^ m
  pub mul_assoc : (a b c : ℕ) → a < 2 ^ m → b < 2 ^ m → c < 2 ^ m → mul (mul a b) c ≡ mul a (mul b c)
  pub mul_comm : (a b : ℕ) → a < 2 ^ m → b < 2 ^ m → mul a b ≡ mul b a
  pub mul_one : (a : ℕ) → a < 2 ^ m → mul a 1 ≡ a
  pub mul_xor : (a b c : ℕ) → a < 2 ^ m → b < 2 ^ m → c < 2 ^ m → mul a (bit_xor b c) ≡ bit_xor (mul a b) (mul a c)
  pub mul_inv : (a : ℕ) → a < 2 ^ m → 0 < a → mul a (inv a) ≡ 1

-- a square root of each number below 2^m
abbrev pub NumRoots : (m : ℕ) (mul : ℕ → ℕ → ℕ) (root : ℕ → ℕ) → Type 0
NumRoots m mul root = (a : ℕ) → a < 2 ^ m → (root a < 2 ^ m) × (mul (root a) (root a) ≡ a)
