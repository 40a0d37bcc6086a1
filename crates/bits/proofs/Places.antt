-- Bits of bytes.
use Rattle.std.proofs.Common.{◌≡◌, ℕ, ◌+◌, ◌*◌, ◌/◌, ◌%◌, ◌^◌, ◌<◌, Bool, true, false, ◌&&◌, T, eqb, ◌⊎◌, List, length, get_or, drop, set, replicate, sym, ap, ◌∙◌, inl, inr, arith}
use mathlib.Core.Bool.{beq}
use native.Mathlib.Nat.{zero-div}
use mir.Val.{bool_byte}
use lib.Bits.{bit_xor, bit_and, xor_shr, xor_mod, and_shr, and_mod}
use Rattle.std.proofs.lemmas.Nat.{mod_below}
use Rattle.std.proofs.lemmas.List.{get_or-set_same, get_or-set_other, get_or-drop, get_or-replicate, get_or_past, length-replicate}
use Rattle.std.proofs.lemmas.Bool.{cases_lt, cases_eq, eq-eqb, ne_eqb}
use Rattle.bits.specs.Vectors.{◌⊕◌}
use Rattle.bits.specs.Packed.{power_of, bit_of, vector, BitAdded}
use Rattle.bits.proofs.Tried.{every, tried, beq_same}
use Rattle.bits.proofs.Sums.{xor_zero, and_no, and_yes}

zero_or_one : (a : ℕ) → a < 2 → (a ≡ 0) ⊎ (a ≡ 1)
zero_or_one a l = elim (cases_lt a 1) [ inl m ↦ inl (omega arith) | inr m ↦ inr (omega arith) ]

pub xor_digit : (a b : ℕ) → a < 2 → b < 2 → eqb (bit_xor a b) 1 ≡ (eqb a 1 ⊕ eqb b 1)
xor_digit a b l m =
    elim (zero_or_one a l) [
      | inl e ↦ elim (zero_or_one b m) [ inl f ↦ rw (e, f) | inr f ↦ rw (e, f) ]
      | inr e ↦ elim (zero_or_one b m) [ inl f ↦ rw (e, f) | inr f ↦ rw (e, f) ]
    ]

and_digit : (a b : ℕ) → a < 2 → b < 2 → eqb (bit_and a b) 1 ≡ (eqb a 1 && eqb b 1)
and_digit a b l m =
    elim (zero_or_one a l) [
      | inl e ↦ rw e
      | inr e ↦ elim (zero_or_one b m) [ inl f ↦ rw (e, f) | inr f ↦ rw (e, f) ]
    ]

-- the bits of a sum of bytes, and of what two bytes share
pub bit_of_xor : (a b k : ℕ) → bit_of (bit_xor a b) k ≡ (bit_of a k ⊕ bit_of b k)
unfolding bit_of
bit_of_xor a b k =
    rw (xor_shr a b (power_of k), xor_mod (a / 2 ^ power_of k) (b / 2 ^ power_of k) 1)
    (xor_digit (a / 2 ^ power_of k % 2) (b / 2 ^ power_of k % 2) (mod_below (a / 2 ^ power_of k) 2 (omega arith)) (mod_below (b / 2 ^ power_of k) 2 (omega arith)))

pub bit_of_and : (a b k : ℕ) → bit_of (bit_and a b) k ≡ (bit_of a k && bit_of b k)
unfolding bit_of
bit_of_and a b k =
    rw (and_shr a b (power_of k), and_mod (a / 2 ^ power_of k) (b / 2 ^ power_of k) 1)
    (and_digit (a / 2 ^ power_of k % 2) (b / 2 ^ power_of k % 2) (mod_below (a / 2 ^ power_of k) 2 (omega arith)) (mod_below (b / 2 ^ power_of k) 2 (omega arith)))

-- a byte of one bit: tried at each of the 64 pairs of places
right : ℕ → Bool
right n = beq (bit_of (2 ^ power_of (n / 8) % 256) (n % 8)) (eqb (n % 8) (n / 8))

all_right : T (every right 64)
unfolding right every bit_of
all_right = tt

one_bit : (k j : ℕ) → k < 8 → j < 8 → bit_of (2 ^ power_of k % 256) j ≡ eqb j k
unfolding right
one_bit k j l m =
    let d : (8 * k + j) / 8 ≡ k = omega arith in
    let e : (8 * k + j) % 8 ≡ j = omega arith in
    rw (d, e) at (beq_same (bit_of (2 ^ power_of ((8 * k + j) / 8) % 256) ((8 * k + j) % 8)) (eqb ((8 * k + j) % 8) ((8 * k + j) / 8)) (tried right 64 all_right (8 * k + j) (omega arith)))

pub no_bit : (j : ℕ) → bit_of 0 j ≡ false
unfolding bit_of
no_bit j = rw (zero-div (2 ^ power_of j))

pub shifted : (b : Bool) (k j : ℕ) → k < 8 → j < 8 → bit_of (bool_byte b * 2 ^ power_of k % 256) j ≡ (eqb j k && b)
shifted true k j l m =
    let e : 1 * 2 ^ power_of k ≡ 2 ^ power_of k = omega arith in
    rw e (one_bit k j l m ∙ sym (and_yes (eqb j k)))
shifted false k j l m = let e : 0 * 2 ^ power_of k % 256 ≡ 0 = omega arith in rw e (no_bit j ∙ sym (and_no (eqb j k)))

pub vector_in : (xs : List ℕ) (k j : ℕ) → j < 8 → vector xs (8 * k + j) ≡ bit_of (get_or xs k 0) j
unfolding vector
vector_in xs k j l =
    let d : (8 * k + j) / 8 ≡ k = omega arith in
    let m : (8 * k + j) % 8 ≡ j = omega arith in
    rw (d, m)

pub vector_drop : (f : ℕ) (xs : List ℕ) (j : ℕ) → vector (drop f xs) j ≡ vector xs (8 * f + j)
unfolding vector
vector_drop f xs j =
    let d : (8 * f + j) / 8 ≡ f + j / 8 = omega arith in
    let m : (8 * f + j) % 8 ≡ j % 8 = omega arith in
    rw (d, m, get_or-drop f xs (j / 8) 0)

pub bit_added :
    (j : ℕ) (b : Bool) (p : ℕ) (xs : List ℕ) → j / 8 < length xs → p ≡ power_of (j % 8)
    → BitAdded j b xs (set xs (j / 8) (bit_xor (get_or xs (j / 8) 0) (bool_byte b * 2 ^ p % 256)))
unfolding vector
bit_added j b p xs lt e i =
    elim (cases_eq (i / 8) (j / 8)) [ inl f ↦ at f | inr d ↦ off d ] where
      x : ℕ
      x = bit_xor (get_or xs (j / 8) 0) (bool_byte b * 2 ^ p % 256)

      same_bit : i / 8 ≡ j / 8 → eqb (i % 8) (j % 8) ≡ eqb i j
      same_bit f =
          elim (cases_eq (i % 8) (j % 8)) [
            | inl q ↦ eq-eqb (i % 8) (j % 8) q ∙ sym (eq-eqb i j (omega arith))
            | inr q ↦ ne_eqb (i % 8) (j % 8) q ∙ sym (ne_eqb i j (λ s. q (ap (λ t. t % 8) s)))
          ]

      at : i / 8 ≡ j / 8 → vector (set xs (j / 8) x) i ≡ (vector xs i ⊕ (eqb i j && b))
      at f =
          rw (f, get_or-set_same xs (j / 8) x 0 lt, bit_of_xor (get_or xs (j / 8) 0) (bool_byte b * 2 ^ p % 256) (i % 8), e, shifted b (j % 8) (i % 8) (mod_below j 8 (omega arith)) (mod_below i 8 (omega arith)), same_bit f)

      off : (i / 8 ≡ j / 8 → ⊥) → vector (set xs (j / 8) x) i ≡ (vector xs i ⊕ (eqb i j && b))
      off d =
          rw (get_or-set_other xs (j / 8) (i / 8) x 0 d, ne_eqb i j (λ q. d (ap (λ t. t / 8) q)))
          (sym (xor_zero (bit_of (get_or xs (i / 8) 0) (i % 8))))

pub zeros_vector : (n i : ℕ) → vector (replicate n 0) i ≡ false
unfolding vector
zeros_vector n i =
    elim (cases_lt (i / 8) n) [
      | inl l ↦ rw (get_or-replicate {A = ℕ} n (i / 8) 0 0 l) (no_bit (i % 8))
      | inr l ↦ rw (get_or_past {X = ℕ} (replicate n 0) (i / 8) 0 (simp length-replicate l)) (no_bit (i % 8))
    ]
