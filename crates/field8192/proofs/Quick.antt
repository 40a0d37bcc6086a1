-- The code's product is the field's: both are linear in each factor, and antt computes both at the powers of two.
use Rattle.std.proofs.Common.{◌≡◌, ℕ, zero, suc, ◌-◌, ◌*◌, ◌/◌, ◌%◌, ◌^◌, ◌<◌, ◌≤◌, Bool, T, eqb, sym, refl, ap, ◌∙◌, ap₂, mod-lt, mul_assoc, mul_comm, pow-suc, one-add, arith, lit<, eqb→eq, pow_mono}
use lib.Bits.{bit_xor, bit_and, xor_mod, xor_shr, xor_lt, and_high}
use Rattle.std.proofs.lemmas.Nat.{mul-le}
use Rattle.algebra.specs.Shifts.{times_z, times_bits}
use Rattle.algebra.proofs.Every.{every, at}
use Rattle.algebra.proofs.Linear.{xor_shl, bit_times, bit_linear, low_bit, bit_below, Linear, after, plus, agree}
use Rattle.field8192.specs.Product.{mul8192}
use Rattle.field8192.specs.Folds.{carryless_bits, folded, grouped}
use Rattle.field8192.specs.Ring.{mul_left, mul_right}

high_linear : (k : ℕ) → Linear (λ t. t / 8192 * 2 ^ k)
high_linear k a b = ap (λ (x : ℕ). x * 2 ^ k) (xor_shr a b 13) ∙ xor_shl k (a / 8192) (b / 8192)

folded_linear : Linear folded
folded_linear =
    plus (λ t. bit_xor (bit_xor (bit_xor (t % 8192) (t / 8192)) (t / 8192 * 32)) (t / 8192 * 64)) (λ t. t / 8192 * 128)
    (plus (λ t. bit_xor (bit_xor (t % 8192) (t / 8192)) (t / 8192 * 32)) (λ t. t / 8192 * 64)
    (plus (λ t. bit_xor (t % 8192) (t / 8192)) (λ t. t / 8192 * 32)
    (plus (λ t. t % 8192) (λ t. t / 8192) (λ a b. xor_mod a b 13) (λ a b. xor_shr a b 13))
    (high_linear 5))
    (high_linear 6))
    (high_linear 7)

carryless_left : (n b : ℕ) → Linear (λ a. carryless_bits n a b)
unfolding carryless_bits
carryless_left zero b a c = refl
carryless_left (suc n) b a c =
    plus (λ a. carryless_bits n a b) (λ a. b / 2 ^ n % 2 * (a * 2 ^ n)) (carryless_left n b)
    (λ a c. ap (λ (x : ℕ). b / 2 ^ n % 2 * x) (xor_shl n a c) ∙ bit_times (b / 2 ^ n % 2) (a * 2 ^ n) (c * 2 ^ n) (low_bit (b / 2 ^ n))) a c

carryless_right : (n a : ℕ) → Linear (carryless_bits n a)
unfolding carryless_bits
carryless_right zero a b c = refl
carryless_right (suc n) a b c =
    plus (carryless_bits n a) (λ b. b / 2 ^ n % 2 * (a * 2 ^ n)) (carryless_right n a) (λ b c. bit_linear n b c (a * 2 ^ n)) b c

-- what a step makes of two linear maps
step : (f g : ℕ → ℕ) → Linear f → Linear g → Linear (λ x. folded (bit_xor (f x * 8) (g x)))
step f g lf lg = after folded (λ x. bit_xor (f x * 8) (g x)) folded_linear (plus (λ x. f x * 8) g (after (λ x. x * 8) f (xor_shl 3) lf) lg)

grouped_left : (n b : ℕ) → Linear (λ a. grouped n a b)
unfolding grouped
grouped_left zero b = λ a c. bit_times (b / 4096 % 2) a c (low_bit (b / 4096))
grouped_left (suc n) b = step (λ a. grouped n a b) (λ a. carryless_bits 3 a (b / 2 ^ (9 - 3 * n))) (grouped_left n b) (carryless_left 3 (b / 2 ^ (9 - 3 * n)))

grouped_right : (n a : ℕ) → Linear (grouped n a)
unfolding grouped
grouped_right zero a = λ b c. bit_linear 12 b c a
grouped_right (suc n) a =
    step (grouped n a) (λ b. carryless_bits 3 a (b / 2 ^ (9 - 3 * n))) (grouped_right n a)
    (after (carryless_bits 3 a) (λ b. b / 2 ^ (9 - 3 * n)) (carryless_right 3 a) (λ b c. xor_shr b c (9 - 3 * n)))

test : ℕ → ℕ → Bool
test i j = eqb (grouped 4 (2 ^ i) (2 ^ j)) (mul8192 (2 ^ i) (2 ^ j))

tested : T (every (λ i. every (λ j. test i j) 13) 13)
unfolding test grouped carryless_bits mul8192 times_bits times_z
tested = tt

pub grouped_is : (a b : ℕ) → a < 8192 → b < 8192 → grouped 4 a b ≡ mul8192 a b
unfolding test
grouped_is a b ha hb =
    agree (λ x. grouped 4 x b) (λ x. mul8192 x b) (grouped_left 4 b) (mul_left b) 13
    (λ i h. agree (grouped 4 (2 ^ i)) (mul8192 (2 ^ i)) (grouped_right 4 (2 ^ i)) (mul_right (2 ^ i)) 13
    (λ j k. eqb→eq (grouped 4 (2 ^ i) (2 ^ j)) (mul8192 (2 ^ i) (2 ^ j)) (at (test i) 13 (at (λ i. every (test i) 13) 13 tested i h) j k))
    b hb)
    a ha

-- a times one bit of b
term : (a b i : ℕ) → a * bit_and b (2 ^ i) ≡ b / 2 ^ i % 2 * (a * 2 ^ i)
term a b i =
    let e = pow-suc 2 i in
    let d : 2 ^ suc i - 2 ^ i ≡ 2 ^ i = omega arith in
    ap (λ (x : ℕ). a * bit_and b x) (sym (ap (λ (n : ℕ). 2 ^ n - 2 ^ i) (one-add i) ∙ d))
    ∙ ap (λ (x : ℕ). a * x) (and_high b 1 i)
    ∙ sym (mul_assoc a (b / 2 ^ i % 2) (2 ^ i))
    ∙ ap (λ (x : ℕ). x * 2 ^ i) (mul_comm a (b / 2 ^ i % 2))
    ∙ mul_assoc (b / 2 ^ i % 2) a (2 ^ i)

pub three : (a b : ℕ) → bit_xor (bit_xor (a * bit_and b 1) (a * bit_and b 2)) (a * bit_and b 4) ≡ carryless_bits 3 a b
unfolding carryless_bits
three a b = ap₂ bit_xor (ap₂ bit_xor (term a b 0) (term a b 1)) (term a b 2)

-- the bounds
wide : (a n : ℕ) → a < 8192 → n < 3 → a * 2 ^ n < 2 ^ 16
wide a n h l =
    let k : n ≤ 2 = omega arith in
    let p : 2 ^ n ≤ 2 ^ 2 = pow_mono k in
    let q : a * 2 ^ n ≤ 8191 * 2 ^ 2 = mul-le a (2 ^ n) 8191 (2 ^ 2) (omega arith) p in
    omega arith

carryless_below : (n a b : ℕ) → a < 8192 → n < 4 → carryless_bits n a b < 2 ^ 16
unfolding carryless_bits
carryless_below zero a b h l = lit< tt
carryless_below (suc n) a b h l =
    xor_lt 16 (carryless_bits n a b) (b / 2 ^ n % 2 * (a * 2 ^ n)) (carryless_below n a b h (omega arith))
    (bit_below (b / 2 ^ n % 2) (a * 2 ^ n) (2 ^ 16) (low_bit (b / 2 ^ n)) (wide a n h (omega arith)))

folded_below : (t : ℕ) → t < 2 ^ 16 → folded t < 2 ^ 13
folded_below t h =
    let m : t % 8192 < 8192 = mod-lt t (lit< tt) in
    xor_lt 13 _ _ (xor_lt 13 _ _ (xor_lt 13 _ _ (xor_lt 13 (t % 8192) (t / 8192) m (omega arith)) (omega arith)) (omega arith)) (omega arith)

pub grouped_below : (n a b : ℕ) → a < 8192 → grouped n a b < 8192
unfolding grouped
grouped_below zero a b h = bit_below (b / 4096 % 2) a 8192 (low_bit (b / 4096)) h
grouped_below (suc n) a b h =
    let c = b / 2 ^ (9 - 3 * n) in
    folded_below (bit_xor (grouped n a b * 8) (carryless_bits 3 a c))
    (xor_lt 16 (grouped n a b * 8) (carryless_bits 3 a c) (omega (arith, grouped_below n a b h)) (carryless_below 3 a c h (lit< tt)))

-- the first bit
pub highest : (a b : ℕ) → b < 8192 → a * (b / 4096) ≡ grouped 0 a b
unfolding grouped
highest a b h = let e : b / 4096 % 2 ≡ b / 4096 = omega arith in mul_comm a (b / 4096) ∙ ap (λ (x : ℕ). x * a) (sym e)
