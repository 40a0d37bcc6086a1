-- Bytes are what their bits say.
use Rattle.std.proofs.Common.{◌≡◌, ℕ, zero, suc, ◌+◌, ◌*◌, ◌/◌, ◌%◌, ◌^◌, ◌<◌, ◌≤◌, Bool, true, false, ◌&&◌, T, eqb, ltb, List, length, get_or, sym, refl, ap, ◌∙◌, inl, inr, arith, eqb→eq}
use mir.Val.{bool_byte}
use lib.Bits.{bit_xor, xor_lt}
use Rattle.std.proofs.lemmas.Nat.{mod_below, div_below}
use Rattle.std.proofs.lemmas.List.{get_or_past}
use Rattle.std.proofs.lemmas.Bool.{cases_lt, cases_eq, eq-eqb, ne_eqb, lt-ltb, le-ltb}
use Rattle.std.proofs.lemmas.List.FromFn.{fill_by_all, length-map-range_with_len, get_or-map-range_with_len}
use Rattle.bits.specs.Vectors.{◌⊕◌, Vector}
use Rattle.bits.specs.Packed.{power_of, bit_of, vector, weights, packed, Bytes}
use Rattle.bits.proofs.Tried.{every, tried}
use Rattle.bits.proofs.Places.{vector_in, bit_of_xor, no_bit, shifted}

-- tried at each of the 256 bytes
right : ℕ → Bool
right n = eqb (weights 8 (bit_of n)) n

all_right : T (every right 256)
unfolding right every bit_of weights
all_right = tt

byte_is : (b : ℕ) → b < 256 → weights 8 (bit_of b) ≡ b
unfolding right
byte_is b l = eqb→eq (weights 8 (bit_of b)) b (tried right 256 all_right b l)

pub weights_same : (n : ℕ) (f g : Vector) → ((k : ℕ) → k < n → f k ≡ g k) → weights n f ≡ weights n g
unfolding weights
weights_same zero f g h = refl
weights_same (suc n) f g h = rw (weights_same n f g (λ k l. h k (omega arith)), h n (omega arith))

-- q bytes whose bits are those of v
pub packed_is : (q : ℕ) (v : Vector) (bs : List ℕ) → length bs ≡ q → Bytes bs → ((i : ℕ) → i < 8 * q → vector bs i ≡ v i) → bs ≡ packed q v
unfolding packed
packed_is q v bs n small h =
    fill_by_all (λ i. weights 8 (λ k. v (8 * i + k))) bs q 0 n
    (λ i l. sym (byte_is (get_or bs i 0) (small i))
    ∙ weights_same 8 (bit_of (get_or bs i 0)) (λ k. v (8 * i + k)) (λ k m. sym (vector_in bs i k m) ∙ h (8 * i + k) (omega arith)))

pub packed_same : (q : ℕ) (v w : Vector) → ((i : ℕ) → i < 8 * q → v i ≡ w i) → packed q v ≡ packed q w
unfolding packed
packed_same q v w h =
    fill_by_all (λ i. weights 8 (λ k. w (8 * i + k))) (packed q v) q 0 (length-map-range_with_len (λ i. weights 8 (λ k. v (8 * i + k))) 0 q)
    (λ i l. get_or-map-range_with_len (λ i. weights 8 (λ k. v (8 * i + k))) 0 q i i 0 l (omega arith)
    ∙ weights_same 8 (λ k. v (8 * i + k)) (λ k. w (8 * i + k)) (λ k m. h (8 * i + k) (omega arith)))

-- a byte that is put together bit by bit
built : ℕ → Vector → ℕ
built zero f = 0
built (suc j) f = bit_xor (built j f) (bool_byte (f j) * 2 ^ power_of j % 256)

built_below : (j : ℕ) (f : Vector) → built j f < 2 ^ 8
unfolding built
built_below zero f = omega arith
built_below (suc j) f =
    xor_lt 8 (built j f) (bool_byte (f j) * 2 ^ power_of j % 256) (built_below j f) (mod_below (bool_byte (f j) * 2 ^ power_of j) 256 (omega arith))

built_bits : (j : ℕ) (f : Vector) → j ≤ 8 → (k : ℕ) → k < 8 → bit_of (built j f) k ≡ (ltb k j && f k)
unfolding built
built_bits zero f le k l = no_bit k ∙ rw (le-ltb k 0 (omega arith))
built_bits (suc j) f le k l =
    bit_of_xor (built j f) (bool_byte (f j) * 2 ^ power_of j % 256) k
    ∙ rw (built_bits j f (omega arith) k l, shifted (f j) j k (omega arith) l)
    (elim (cases_eq k j) [
      | inl e ↦ rw (e, le-ltb j j (omega arith), eq-eqb j j refl, lt-ltb j (suc j) (omega arith))
      | inr d ↦ rw (ne_eqb k j d) (elim (cases_lt k j) [
        | inl m ↦ rw (lt-ltb k j m, lt-ltb k (suc j) (omega arith)) (plain (f k))
        | inr m ↦ rw (le-ltb k j m, le-ltb k (suc j) (omega arith))
      ])
    ]) where
      plain : (b : Bool) → (b ⊕ false) ≡ b
      plain true = refl
      plain false = refl

weights_built : (f : Vector) → weights 8 f ≡ built 8 f
weights_built f = weights_same 8 f (bit_of (built 8 f)) (λ k l. sym (all k l)) ∙ byte_is (built 8 f) (built_below 8 f) where
  all : (k : ℕ) → k < 8 → bit_of (built 8 f) k ≡ f k
  all k l = built_bits 8 f (omega arith) k l ∙ rw (lt-ltb k 8 l)

weights_bit : (f : Vector) (k : ℕ) → k < 8 → bit_of (weights 8 f) k ≡ f k
weights_bit f k l = rw (weights_built f) (built_bits 8 f (omega arith) k l ∙ rw (lt-ltb k 8 l))

-- the packed bytes hold the vector
pub vector_packed : (q : ℕ) (v : Vector) (i : ℕ) → i < 8 * q → vector (packed q v) i ≡ v i
unfolding vector packed
vector_packed q v i l =
    let d : i / 8 < q = div_below i 8 q (omega arith) (omega arith) in
    let e : 8 * (i / 8) + i % 8 ≡ i = omega arith in
    rw (get_or-map-range_with_len (λ i. weights 8 (λ k. v (8 * i + k))) 0 q (i / 8) (i / 8) 0 d (omega arith))
    (weights_bit (λ k. v (8 * (i / 8) + k)) (i % 8) (mod_below i 8 (omega arith)) ∙ ap v e)

pub length_packed : (q : ℕ) (v : Vector) → length (packed q v) ≡ q
unfolding packed
length_packed q v = length-map-range_with_len (λ i. weights 8 (λ k. v (8 * i + k))) 0 q

pub packed_bytes : (q : ℕ) (v : Vector) → Bytes (packed q v)
unfolding packed
packed_bytes q v k =
    elim (cases_lt k q) [
      | inl l ↦
          rw (get_or-map-range_with_len (λ i. weights 8 (λ k. v (8 * i + k))) 0 q k k 0 l (omega arith), weights_built (λ j. v (8 * k + j)))
          (built_below 8 (λ j. v (8 * k + j)))
      | inr l ↦ rw (get_or_past (packed q v) k 0 (rw (length_packed q v) l)) (omega arith)
    ]
