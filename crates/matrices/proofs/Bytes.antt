-- The product of two vectors, byte by byte.
use Rattle.std.proofs.Common.{◌≡◌, ℕ, ◌+◌, ◌*◌, ◌/◌, ◌%◌, ◌<◌, ◌≤◌, Bool, true, T, eqb, List, get_or, take, drop, sym, refl, ap, ◌∙◌, add-mul, one-mul, arith}
use mathlib.Core.Bool.{beq}
use lib.Bits.{bit_xor, bit_and}
use lib.Count.{ones}
use Rattle.std.proofs.lemmas.Nat.{div_below, mul-le}
use Rattle.std.proofs.lemmas.List.{get_or-take, get_or-drop}
use Rattle.bits.specs.Vectors.{◌⊕◌, Vector, dot}
use Rattle.bits.specs.Packed.{bit_of, vector, matrix}
use Rattle.bits.proofs.Tried.{every, tried, beq_same}
use Rattle.bits.proofs.Sums.{and_yes, dot_left, dot_same, dot_products, dot_split}
use Rattle.bits.proofs.Places.{bit_of_xor, bit_of_and, vector_in}
use Rattle.matrices.specs.Parity.{parity_of}

-- the parity of a byte is that of the number of its ones: tried at each of the 256
right : ℕ → Bool
right n = beq (parity_of n) (eqb (ones n % 2) 1)

all_right : T (every right 256)
unfolding right every parity_of dot bit_of ones
all_right = tt

pub parity_ones : (n : ℕ) → n < 256 → parity_of n ≡ eqb (ones n % 2) 1
unfolding right
parity_ones n l = beq_same (parity_of n) (eqb (ones n % 2) 1) (tried right 256 all_right n l)

parity_xor : (a b : ℕ) → parity_of (bit_xor a b) ≡ (parity_of a ⊕ parity_of b)
unfolding parity_of
parity_xor a b =
    dot_same 8 (bit_of (bit_xor a b)) (λ j. bit_of a j ⊕ bit_of b j) (λ _. true) (λ _. true) (λ j l. bit_of_xor a b j) (λ j l. refl)
    ∙ dot_left 8 (bit_of a) (bit_of b) (λ _. true)

parity_and : (a b : ℕ) → parity_of (bit_and a b) ≡ dot 8 (bit_of a) (bit_of b)
unfolding parity_of
parity_and a b =
    dot_products 8 (bit_of (bit_and a b)) (bit_of a) (λ _. true) (bit_of b) (λ j l. and_yes (bit_of (bit_and a b) j) ∙ bit_of_and a b j)

pub parity_more :
    (xs ys : List ℕ) (k s : ℕ) → parity_of s ≡ dot (8 * k) (vector xs) (vector ys)
    → parity_of (bit_xor s (bit_and (get_or xs k 0) (get_or ys k 0))) ≡ dot (8 * (k + 1)) (vector xs) (vector ys)
parity_more xs ys k s h =
    let e : 8 * (k + 1) ≡ 8 * k + 8 = omega arith in
    rw (e, dot_split (8 * k) 8 (vector xs) (vector ys), parity_xor s (bit_and (get_or xs k 0) (get_or ys k 0)), h, parity_and (get_or xs k 0) (get_or ys k 0))
    (ap (λ b. dot (8 * k) (vector xs) (vector ys) ⊕ b)
    (dot_same 8 (bit_of (get_or xs k 0)) (λ j. vector xs (8 * k + j)) (bit_of (get_or ys k 0)) (λ j. vector ys (8 * k + j))
    (λ j l. sym (vector_in xs k j l)) (λ j l. sym (vector_in ys k j l))))

-- one row ends before a later one begins
pub row_before : (w i k : ℕ) → i < k → i * w + w ≤ k * w
row_before w i k l = omega (arith, mul-le (i + 1) w k w (omega arith) (omega arith), add-mul i 1 w, one-mul w)

-- a part of the bytes as a row
pub row_part : (w i n : ℕ) (bs : List ℕ) (v : Vector) → n ≡ w → dot (8 * w) (vector (take n (drop (i * w) bs))) v ≡ dot (8 * w) (matrix w bs i) v
unfolding vector matrix
row_part w i n bs v e =
    dot_same (8 * w) (vector (take n (drop (i * w) bs))) (matrix w bs i) v v
    (λ j l. let m : j / 8 < n = omega (arith, div_below j 8 w (omega arith) (omega arith)) in
    rw (get_or-take n (drop (i * w) bs) (j / 8) 0 m, get_or-drop (i * w) bs (j / 8) 0))
    (λ j l. refl)
