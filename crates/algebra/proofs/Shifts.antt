-- The reduced product: it is linear in each factor, has a bound, and keeps the laws that it keeps at the powers of two.
use Rattle.std.proofs.Common.{◌≡◌, ℕ, zero, suc, ◌*◌, ◌/◌, ◌%◌, ◌^◌, ◌<◌, Bool, T, eqb, sym, refl, ap, ◌∙◌, subst, ap₂, add-one, arith, eqb→eq}
use lib.Bits.{bit_xor, xor_lt, xor_mod, xor_shr}
use lib.Pow.{mod-mod-pow, field}
use Rattle.std.proofs.lemmas.Nat.{mod_below, pow_pos, shl_below}
use Rattle.algebra.specs.Shifts.{times_z, times_bits}
use Rattle.algebra.proofs.Every.{every, at}
use Rattle.algebra.proofs.Linear.{xor_swap, xor_shl, low_bit, bit_times, low_of, bit_linear, bit_below, Linear, after, agree}

module _ (k r : ℕ) where
  times_z_linear : Linear (times_z k r)
  unfolding times_z
  times_z_linear a b =
      ap₂ bit_xor (ap (λ (w : ℕ). w * 2) (xor_mod a b k) ∙ xor_shl 1 (a % 2 ^ k) (b % 2 ^ k)) (bit_linear k a b r)
      ∙ xor_swap (a % 2 ^ k * 2) (b % 2 ^ k * 2) (a / 2 ^ k % 2 * r) (b / 2 ^ k % 2 * r)

  pub times_left : (n c : ℕ) → Linear (λ a. times_bits k r n a c)
  unfolding times_bits
  times_left zero c a b = refl
  times_left (suc n) c a b =
      ap₂ bit_xor
      (bit_times (c % 2) a b (low_bit c))
      (ap (λ (w : ℕ). times_bits k r n w (c / 2)) (times_z_linear a b) ∙ times_left n (c / 2) (times_z k r a) (times_z k r b))
      ∙ xor_swap (c % 2 * a) (c % 2 * b) (times_bits k r n (times_z k r a) (c / 2)) (times_bits k r n (times_z k r b) (c / 2))

  pub times_right : (n a : ℕ) → Linear (times_bits k r n a)
  unfolding times_bits
  times_right zero a b c = refl
  times_right (suc n) a b c =
      ap₂ bit_xor
      (low_of b c a)
      (ap (times_bits k r n (times_z k r a)) (xor_shr b c 1) ∙ times_right n (times_z k r a) (b / 2) (c / 2))
      ∙ xor_swap (b % 2 * a) (c % 2 * a) (times_bits k r n (times_z k r a) (b / 2)) (times_bits k r n (times_z k r a) (c / 2))

  -- only the lowest n bits of the second factor count
  pub times_reads : (n a b : ℕ) → times_bits k r n a b ≡ times_bits k r n a (b % 2 ^ n)
  unfolding times_bits
  times_reads zero a b = refl
  times_reads (suc n) a b =
      ap₂ bit_xor
      (ap (λ (x : ℕ). x * a) (sym (mod-mod-pow b n 1) ∙ ap (λ (m : ℕ). b % 2 ^ m % 2) (add-one n)))
      (times_reads n (times_z k r a) (b / 2)
      ∙ ap (times_bits k r n (times_z k r a)) (sym (field b n 1) ∙ ap (λ (m : ℕ). b % 2 ^ m / 2) (add-one n)))

module _ (k r : ℕ) (small : r < 2 ^ suc k) where
  times_z_below : (a : ℕ) → times_z k r a < 2 ^ suc k
  unfolding times_z
  times_z_below a =
      xor_lt (suc k) (a % 2 ^ k * 2) (a / 2 ^ k % 2 * r)
      (subst (λ (j : ℕ). a % 2 ^ k * 2 < 2 ^ j) (omega arith) (shl_below (a % 2 ^ k) k 1 (mod_below a (2 ^ k) (pow_pos k))))
      (bit_below (a / 2 ^ k % 2) r (2 ^ suc k) (low_bit (a / 2 ^ k)) small)

  pub times_below : (n a b : ℕ) → a < 2 ^ suc k → times_bits k r n a b < 2 ^ suc k
  unfolding times_bits
  times_below zero a b h = pow_pos (suc k)
  times_below (suc n) a b h =
      xor_lt (suc k) (b % 2 * a) (times_bits k r n (times_z k r a) (b / 2))
      (bit_below (b % 2) a (2 ^ suc k) (low_bit b) h)
      (times_below n (times_z k r a) (b / 2) (times_z_below a))

module _ (k r m : ℕ) where
  abbrev mul : ℕ → ℕ → ℕ
  mul = times_bits k r m

  -- the tests, at the powers of two
  abbrev pub comm_test : ℕ → ℕ → Bool
  comm_test i j = eqb (mul (2 ^ i) (2 ^ j)) (mul (2 ^ j) (2 ^ i))

  abbrev pub assoc_test : ℕ → ℕ → ℕ → Bool
  assoc_test i j l = eqb (mul (mul (2 ^ i) (2 ^ j)) (2 ^ l)) (mul (2 ^ i) (mul (2 ^ j) (2 ^ l)))

  abbrev pub one_test : ℕ → Bool
  one_test i = eqb (mul (2 ^ i) 1) (2 ^ i)

  left : (b : ℕ) → Linear (λ a. mul a b)
  left = times_left k r m

  right : (a : ℕ) → Linear (mul a)
  right = times_right k r m

  pub comm : T (every (λ i. every (λ j. comm_test i j) m) m) → (a b : ℕ) → a < 2 ^ m → b < 2 ^ m → mul a b ≡ mul b a
  comm t a b ha hb =
      agree (λ x. mul x b) (mul b) (left b) (right b) m
      (λ i hi. agree (mul (2 ^ i)) (λ y. mul y (2 ^ i)) (right (2 ^ i)) (left (2 ^ i)) m
      (λ j hj. eqb→eq (mul (2 ^ i) (2 ^ j)) (mul (2 ^ j) (2 ^ i)) (at (λ j. comm_test i j) m (at (λ i. every (λ j. comm_test i j) m) m t i hi) j hj))
      b hb)
      a ha

  pub assoc : T (every (λ i. every (λ j. every (λ l. assoc_test i j l) m) m) m) → (a b c : ℕ) → a < 2 ^ m → b < 2 ^ m → c < 2 ^ m → mul (mul a b) c ≡ mul a (mul b c)
  assoc t a b c ha hb hc =
      agree (λ x. mul (mul x b) c) (λ x. mul x (mul b c)) (after (λ x. mul x c) (λ x. mul x b) (left c) (left b)) (left (mul b c)) m
      (λ i hi. agree (λ y. mul (mul (2 ^ i) y) c) (λ y. mul (2 ^ i) (mul y c)) (after (λ x. mul x c) (mul (2 ^ i)) (left c) (right (2 ^ i))) (after (mul (2 ^ i)) (λ y. mul y c) (right (2 ^ i)) (left c)) m
      (λ j hj. agree (mul (mul (2 ^ i) (2 ^ j))) (λ z. mul (2 ^ i) (mul (2 ^ j) z)) (right (mul (2 ^ i) (2 ^ j))) (after (mul (2 ^ i)) (mul (2 ^ j)) (right (2 ^ i)) (right (2 ^ j))) m
      (λ l hl. eqb→eq _ _ (at (λ l. assoc_test i j l) m (at (λ j. every (λ l. assoc_test i j l) m) m (at (λ i. every (λ j. every (λ l. assoc_test i j l) m) m) m t i hi) j hj) l hl))
      c hc)
      b hb)
      a ha

  pub one : T (every one_test m) → (a : ℕ) → a < 2 ^ m → mul a 1 ≡ a
  one t a ha =
      agree (λ x. mul x 1) (λ x. x) (left 1) (λ a b. refl) m
      (λ i hi. eqb→eq (mul (2 ^ i) 1) (2 ^ i) (at one_test m t i hi))
      a ha
