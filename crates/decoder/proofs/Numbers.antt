-- The low bits of numbers.
use Rattle.std.proofs.Common.{◌≡◌, ℕ, zero, suc, ◌+◌, ◌*◌, ◌/◌, ◌%◌, ◌^◌, ◌<◌, Bool, true, false, eqb, sym, refl, ap, ◌∙◌, pow-suc, div-one, arith}
use native.Mathlib.Nat.{div-div-eq-div-mul, pow-succ', zero-div}
use lib.Bits.{bit_xor, xor_shr, xor_mod}
use mir.Val.{bool_byte}
use Rattle.std.proofs.lemmas.Nat.{mod_below}
use Rattle.bits.specs.Vectors.{◌⊕◌}
use Rattle.bits.proofs.Places.{xor_digit}
use Rattle.matrices.specs.Columns.{number_bit}

pub low_xor : (a b i : ℕ) → number_bit (bit_xor a b) i ≡ (number_bit a i ⊕ number_bit b i)
unfolding number_bit
low_xor a b i =
    rw (xor_shr a b i, xor_mod (a / 2 ^ i) (b / 2 ^ i) 1)
    (xor_digit (a / 2 ^ i % 2) (b / 2 ^ i % 2) (mod_below (a / 2 ^ i) 2 (omega arith)) (mod_below (b / 2 ^ i) 2 (omega arith)))

pub low_zero : (i : ℕ) → number_bit 0 i ≡ false
unfolding number_bit
low_zero i = rw (zero-div (2 ^ i))

-- bit i + 1 is bit i of the half
pub low_half : (x i : ℕ) → number_bit x (suc i) ≡ number_bit (x / 2) i
unfolding number_bit
low_half x i = ap (λ (n : ℕ). eqb (n % 2) 1) (ap (λ (n : ℕ). x / n) (pow-succ' 2 i) ∙ sym (div-div-eq-div-mul x 2 (2 ^ i)))

pub low_first : (x : ℕ) → number_bit x 0 ≡ eqb (x % 2) 1
unfolding number_bit
low_first x = ap (λ (n : ℕ). eqb (n % 2) 1) (div-one x)

digit : (a b : ℕ) → a < 2 → b < 2 → eqb a 1 ≡ eqb b 1 → a ≡ b
digit zero zero ha hb e = refl
digit zero (suc zero) ha hb e = let z : ◌≡◌ {A = ℕ} 0 1 = ap (elim [ true ↦ 1 | false ↦ 0 ]) e in absurd (omega arith)
digit zero (suc (suc b)) ha hb e = absurd (omega arith)
digit (suc zero) zero ha hb e = let z : ◌≡◌ {A = ℕ} 1 0 = ap (elim [ true ↦ 1 | false ↦ 0 ]) e in absurd (omega arith)
digit (suc zero) (suc zero) ha hb e = refl
digit (suc zero) (suc (suc b)) ha hb e = absurd (omega arith)
digit (suc (suc a)) b ha hb e = absurd (omega arith)

-- numbers below 2^m with the same m bits are equal
pub same_bits : (m x y : ℕ) → x < 2 ^ m → y < 2 ^ m → ((i : ℕ) → i < m → number_bit x i ≡ number_bit y i) → x ≡ y
same_bits zero x y hx hy h = omega arith
same_bits (suc m) x y hx hy h =
    let up = pow-suc 2 m in
    let rest : x / 2 ≡ y / 2 = same_bits m (x / 2) (y / 2) (omega arith) (omega arith) (λ i l. sym (low_half x i) ∙ h (suc i) (omega arith) ∙ low_half y i) in
    let first : x % 2 ≡ y % 2 = digit (x % 2) (y % 2) (mod_below x 2 (omega arith)) (mod_below y 2 (omega arith)) (sym (low_first x) ∙ h 0 (omega arith) ∙ low_first y) in
    omega arith

-- a bit before the bits of x
pub joined_first : (x : ℕ) (b : Bool) → number_bit (2 * x + bool_byte b) 0 ≡ b
joined_first x true = let e : (2 * x + 1) % 2 ≡ 1 = omega arith in low_first (2 * x + 1) ∙ rw e
joined_first x false = let e : (2 * x + 0) % 2 ≡ 0 = omega arith in low_first (2 * x + 0) ∙ rw e

pub joined_rest : (x : ℕ) (b : Bool) (i : ℕ) → number_bit (2 * x + bool_byte b) (suc i) ≡ number_bit x i
joined_rest x true i = let e : (2 * x + 1) / 2 ≡ x = omega arith in low_half (2 * x + 1) i ∙ ap (λ (n : ℕ). number_bit n i) e
joined_rest x false i = let e : (2 * x + 0) / 2 ≡ x = omega arith in low_half (2 * x + 0) i ∙ ap (λ (n : ℕ). number_bit n i) e

pub byte_small : (b : Bool) → bool_byte b < 2
byte_small true = omega arith
byte_small false = omega arith
