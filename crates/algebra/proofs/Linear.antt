-- Maps of numbers that keep the exclusive or. Two that agree at the powers of two below 2^n agree below 2^n.
use Rattle.std.proofs.Common.{◌≡◌, ℕ, zero, suc, ◌*◌, ◌/◌, ◌%◌, ◌^◌, ◌<◌, ◌⊎◌, sym, refl, ap, ◌∙◌, subst, ap₂, inl, inr, add-zero, mod-lt, one-mul, zero-mul, arith, lit<}
use lib.Bits.{bit_xor, xor_assoc, xor_comm, xor_self, xor_zero_r, xor_mod, xor_shr, xor_block, xor_shifted}
use Rattle.std.proofs.lemmas.Nat.{shr_split, mod_below, pow_pos, shr_below}

-- (a + b) + (c + d) = (a + c) + (b + d)
pub xor_swap : (a b c d : ℕ) → bit_xor (bit_xor a b) (bit_xor c d) ≡ bit_xor (bit_xor a c) (bit_xor b d)
xor_swap a b c d =
    xor_assoc a b (bit_xor c d)
    ∙ ap (bit_xor a) (sym (xor_assoc b c d) ∙ ap (λ (w : ℕ). bit_xor w d) (xor_comm b c) ∙ xor_assoc c b d)
    ∙ sym (xor_assoc a c (bit_xor b d))

pub xor_shl : (k a b : ℕ) → bit_xor a b * 2 ^ k ≡ bit_xor (a * 2 ^ k) (b * 2 ^ k)
xor_shl k a b =
    sym (ap₂ bit_xor (sym (add-zero (a * 2 ^ k))) (sym (add-zero (b * 2 ^ k))) ∙ xor_block k a b 0 0 (pow_pos k) (pow_pos k) ∙ add-zero (bit_xor a b * 2 ^ k))

pub low_bit : (a : ℕ) → a % 2 < 2
low_bit a = mod-lt a (lit< tt)

-- a bit times a sum
pub bit_times : (c a b : ℕ) → c < 2 → c * bit_xor a b ≡ bit_xor (c * a) (c * b)
bit_times zero a b h = zero-mul (bit_xor a b) ∙ sym (ap₂ bit_xor (zero-mul a) (zero-mul b))
bit_times (suc zero) a b h = one-mul (bit_xor a b) ∙ sym (ap₂ bit_xor (one-mul a) (one-mul b))
bit_times (suc (suc c)) a b h = absurd (omega arith)

-- a sum of bits times a number
bits_times : (c d a : ℕ) → c < 2 → d < 2 → bit_xor c d * a ≡ bit_xor (c * a) (d * a)
bits_times zero d a h k = sym (ap (λ (x : ℕ). bit_xor x (d * a)) (zero-mul a))
bits_times (suc zero) zero a h k = sym (ap (bit_xor (1 * a)) (zero-mul a) ∙ xor_zero_r (1 * a))
bits_times (suc zero) (suc zero) a h k = zero-mul a ∙ sym (xor_self (1 * a))
bits_times (suc zero) (suc (suc d)) a h k = absurd (omega arith)
bits_times (suc (suc c)) d a h k = absurd (omega arith)

-- the lowest bit of a sum, times a number
pub low_of : (a b c : ℕ) → bit_xor a b % 2 * c ≡ bit_xor (a % 2 * c) (b % 2 * c)
low_of a b c = ap (λ (x : ℕ). x * c) (xor_mod a b 1) ∙ bits_times (a % 2) (b % 2) c (low_bit a) (low_bit b)

-- bit k of a sum, times a number
pub bit_linear : (k a b c : ℕ) → bit_xor a b / 2 ^ k % 2 * c ≡ bit_xor (a / 2 ^ k % 2 * c) (b / 2 ^ k % 2 * c)
bit_linear k a b c = ap (λ (x : ℕ). x % 2 * c) (xor_shr a b k) ∙ low_of (a / 2 ^ k) (b / 2 ^ k) c

-- a bit times a number keeps the number's bound
pub bit_below : (c a b : ℕ) → c < 2 → a < b → c * a < b
bit_below zero a b h l = rw (zero-mul a) (omega arith)
bit_below (suc zero) a b h l = rw (one-mul a) l
bit_below (suc (suc c)) a b h l = absurd (omega arith)

abbrev pub Linear : (ℕ → ℕ) → Type 0
Linear f = (a b : ℕ) → f (bit_xor a b) ≡ bit_xor (f a) (f b)

pub linear_zero : (f : ℕ → ℕ) → Linear f → f 0 ≡ 0
linear_zero f l = l 0 0 ∙ xor_self (f 0)

pub after : (f g : ℕ → ℕ) → Linear f → Linear g → Linear (λ x. f (g x))
after f g lf lg a b = ap f (lg a b) ∙ lf (g a) (g b)

pub plus : (f g : ℕ → ℕ) → Linear f → Linear g → Linear (λ x. bit_xor (f x) (g x))
plus f g lf lg a b = ap₂ bit_xor (lf a b) (lg a b) ∙ xor_swap (f a) (f b) (g a) (g b)

bit : (p : ℕ) → p < 2 → (p ≡ 0) ⊎ (p ≡ 1)
bit zero h = inl refl
bit (suc zero) h = inr refl
bit (suc (suc p)) h = absurd (omega arith)

pub agree : (f g : ℕ → ℕ) → Linear f → Linear g → (n : ℕ) → ((i : ℕ) → i < n → f (2 ^ i) ≡ g (2 ^ i)) → (x : ℕ) → x < 2 ^ n → f x ≡ g x
agree f g lf lg zero h x b = let z : x ≡ 0 = omega arith in rw z (linear_zero f lf ∙ sym (linear_zero g lg))
agree f g lf lg (suc n) h x b =
    let low : f (x % 2 ^ n) ≡ g (x % 2 ^ n) = agree f g lf lg n (λ i l. h i (omega arith)) (x % 2 ^ n) (mod_below x (2 ^ n) (pow_pos n)) in
    let cut : bit_xor (x / 2 ^ n * 2 ^ n) (x % 2 ^ n) ≡ x = xor_shifted (x / 2 ^ n) n (x % 2 ^ n) (mod_below x (2 ^ n) (pow_pos n)) ∙ shr_split x n in
    let small : x / 2 ^ n < 2 = shr_below x 1 n (subst (λ (j : ℕ). x < 2 ^ j) (omega arith) b) in
    let high : f (x / 2 ^ n * 2 ^ n) ≡ g (x / 2 ^ n * 2 ^ n) =
    elim (bit (x / 2 ^ n) small) [
      | inl e ↦ rw (e, zero-mul (2 ^ n)) (linear_zero f lf ∙ sym (linear_zero g lg))
      | inr e ↦ rw (e, one-mul (2 ^ n)) (h n (omega arith))
    ]
    in
    ap f (sym cut) ∙ lf (x / 2 ^ n * 2 ^ n) (x % 2 ^ n) ∙ ap₂ bit_xor high low ∙ sym (lg (x / 2 ^ n * 2 ^ n) (x % 2 ^ n)) ∙ ap g cut
