-- Squares, roots and inverses.
-- Squaring is linear, so a ^ 8192 ≡ a by a check at the powers of two. Then e = a ^ 8191 has e * e ≡ e, and a test of all
-- 8,192 numbers says that 0 and 1 alone have.
use Rattle.std.specs.Prelude.{◌≡◌, ℕ, zero, suc, ◌^◌, ◌<◌, Bool, true, false, T, ◌==◌, bit_xor, nat_lt, refl}
use Rattle.std.proofs.Common.{sym, ap, ap₂, ◌∙◌, subst, arith, eqb→eq, ltb→lt}
use Rattle.std.specs.Int.Bits.{xor_assoc, xor_self}
use Rattle.std.proofs.Math.Dec.{eqb_refl}
use Rattle.field8192.specs.Product.{mul8192, square8192, squares, ones, inv8192, root8192}
use Rattle.algebra.specs.Shifts.{times_z, times_bits}
use Rattle.algebra.proofs.Every.{every, at}
use Rattle.algebra.proofs.Linear.{Linear, agree, linear_zero}
use Rattle.field8192.specs.Ring.{mul_left, mul_right, mul_below, mul_comm, mul_assoc, mul_one}

xor_middle : (p q r : ℕ) → bit_xor (bit_xor p q) (bit_xor q r) ≡ bit_xor p r
xor_middle p q r = xor_assoc p q (bit_xor q r) ∙ ap (bit_xor p) (sym (xor_assoc q q r) ∙ ap (λ (x : ℕ). bit_xor x r) (xor_self q))

pub square_linear : Linear square8192
unfolding square8192
square_linear a b =
    mul_left (bit_xor a b) a b ∙ ap₂ bit_xor (mul_right a a b) (mul_right b a b ∙ ap (λ (x : ℕ). bit_xor x (mul8192 b b)) (mul_comm b a))
    ∙ xor_middle (mul8192 a a) (mul8192 a b) (mul8192 b b)

pub squares_linear : (n : ℕ) → Linear (squares n)
unfolding squares
squares_linear zero a b = refl
squares_linear (suc n) a b = ap square8192 (squares_linear n a b) ∙ square_linear (squares n a) (squares n b)

turn_test : ℕ → Bool
turn_test i = squares 13 (2 ^ i) == 2 ^ i

turn_all : T (every (λ i. turn_test i) 13)
unfolding turn_test squares square8192 mul8192 times_bits times_z
turn_all = tt

-- a ^ 8192 ≡ a
pub turn : (a : ℕ) → a < 8192 → squares 13 a ≡ a
unfolding turn_test
turn = agree (squares 13) (λ x. x) (squares_linear 13) (λ a b. refl) 13 (λ i h. eqb→eq (squares 13 (2 ^ i)) (2 ^ i) (at turn_test 13 turn_all i h))

pub root : (a : ℕ) → a < 8192 → mul8192 (root8192 a) (root8192 a) ≡ a
unfolding squares square8192
root a h = turn a h

-- ---- the inverse

implies : Bool → Bool → Bool
implies true b = b
implies false b = true

implies_use : (a b : Bool) → T (implies a b) → T a → T b
unfolding implies
implies_use true b t u = t
implies_use false b t u = absurd u

still_test : ℕ → Bool
still_test x = implies (square8192 x == x) (nat_lt x 2)

still_all : T (every (λ x. still_test x) 8192)
unfolding still_test implies square8192 mul8192 times_bits times_z
still_all = tt

still : (x : ℕ) → x < 8192 → square8192 x ≡ x → x < 2
unfolding still_test
still x h e =
    ltb→lt x 2 (implies_use (square8192 x == x) (nat_lt x 2) (at still_test 8192 still_all x h)
    (subst (λ (y : ℕ). T (y == x)) (sym e) (eqb_refl x)))

square_mul : (a b : ℕ) → square8192 (mul8192 a b) ≡ mul8192 (square8192 a) (square8192 b)
unfolding square8192
square_mul a b =
    mul_assoc a b (mul8192 a b)
    ∙ ap (mul8192 a) (sym (mul_assoc b a b) ∙ ap (λ (x : ℕ). mul8192 x b) (mul_comm b a) ∙ mul_assoc a b b)
    ∙ sym (mul_assoc a a (mul8192 b b))

square_is : (a : ℕ) → square8192 a ≡ mul8192 a a
unfolding square8192
square_is a = refl

-- a * a ^ (2 ^ n - 1) ≡ a ^ (2 ^ n)
one_more : (n a : ℕ) → a < 8192 → mul8192 a (ones n a) ≡ squares n a
unfolding ones squares
one_more zero a h = mul_one a h
one_more (suc n) a h =
    sym (mul_assoc a a (square8192 (ones n a))) ∙ ap (λ (x : ℕ). mul8192 x (square8192 (ones n a))) (sym (square_is a))
    ∙ sym (square_mul a (ones n a)) ∙ ap square8192 (one_more n a h)

back : (a : ℕ) → a < 8192 → mul8192 a (mul8192 a (inv8192 a)) ≡ a
unfolding inv8192 ones
back a h = one_more 13 a h ∙ turn a h

pub inverse : (a : ℕ) → 0 < a → a < 8192 → mul8192 a (inv8192 a) ≡ 1
inverse a p h = unit (mul8192 a (inv8192 a)) refl (still (mul8192 a (inv8192 a)) (mul_below a (inv8192 a)) same)
  where
    same : square8192 (mul8192 a (inv8192 a)) ≡ mul8192 a (inv8192 a)
    same =
        square_is (mul8192 a (inv8192 a)) ∙ sym (mul_assoc (mul8192 a (inv8192 a)) a (inv8192 a))
        ∙ ap (λ (x : ℕ). mul8192 x (inv8192 a)) (mul_comm (mul8192 a (inv8192 a)) a ∙ back a h)

    unit : (e : ℕ) → mul8192 a (inv8192 a) ≡ e → e < 2 → mul8192 a (inv8192 a) ≡ 1
    unit zero z l =
        let none : a ≡ 0 = sym (back a h) ∙ ap (mul8192 a) z ∙ linear_zero (mul8192 a) (mul_right a) in
        absurd (omega arith)
    unit (suc zero) z l = z
    unit (suc (suc e)) z l = absurd (omega arith)
