-- Rows of two packed matrices, compared byte by byte.
use Rattle.std.proofs.Common.{◌≡◌, ℕ, zero, suc, ◌+◌, ◌*◌, ◌/◌, ◌<◌, Bool, true, false, not, ◌||◌, eqb, List, [], ◌∷◌, get_or, take, drop, sym, refl, ap, ◌∙◌, ap₂, inl, inr, add-zero, arith}
use Rattle.std.proofs.lemmas.Nat.{div_below}
use Rattle.std.proofs.lemmas.List.{get_or-take, get_or-drop}
use Rattle.std.proofs.lemmas.Bool.{cases_eq, eq-eqb, ne_eqb, or_right}
use Rattle.bits.specs.Vectors.{◌⊕◌, Vector, weight}
use Rattle.bits.specs.Packed.{bit_of, vector, matrix, Bytes}
use Rattle.bits.proofs.Decision.{weight_none, none_weight, weight_same}
use Rattle.bits.proofs.Packing.{packed_is}
use Rattle.bits.proofs.Places.{vector_in}
use Rattle.bits.proofs.Sums.{xor_self, xor_same}
use Rattle.soundness.proofs.Counting.{weight_split}

one_byte : (x : ℕ) → x < 256 → Bytes (x ∷ [])
one_byte x l zero = l
one_byte x l (suc k) = omega arith

-- a byte is known by its bits
byte_same : (x y : ℕ) → x < 256 → y < 256 → ((k : ℕ) → k < 8 → bit_of x k ≡ bit_of y k) → x ≡ y
byte_same x y lx ly h =
    ap (λ (l : List ℕ). get_or l 0 0) (packed_is 1 (bit_of y) (x ∷ []) refl (one_byte x lx) (λ i l. here x i l ∙ h i (omega arith)))
    ∙ sym (ap (λ (l : List ℕ). get_or l 0 0) (packed_is 1 (bit_of y) (y ∷ []) refl (one_byte y ly) (here y))) where
      here : (z i : ℕ) → i < 8 * 1 → vector (z ∷ []) i ≡ bit_of z i
      here z i l =
          let e : 8 * 0 + i ≡ i = omega arith in
          ap (vector (z ∷ [])) (sym e) ∙ vector_in (z ∷ []) 0 i (omega arith)

-- one more byte
pub differ_more :
    (a b : List ℕ) (k : ℕ) → get_or a k 0 < 256 → get_or b k 0 < 256
    → (not (eqb (weight (8 * k) (λ j. vector a j ⊕ vector b j)) 0) || not (eqb (get_or a k 0) (get_or b k 0)))
    ≡ not (eqb (weight (8 * (k + 1)) (λ j. vector a j ⊕ vector b j)) 0)
differ_more a b k la lb =
    let v : Vector = λ j. vector a j ⊕ vector b j in
    let e : 8 * (k + 1) ≡ 8 * k + 8 = omega arith in
    rw (e, weight_split (8 * k) 8 v)
    (elim (cases_eq (get_or a k 0) (get_or b k 0)) [
      | inl q ↦
          let z : weight 8 (λ i. v (8 * k + i)) ≡ 0 =
          weight_none 8 (λ i. v (8 * k + i))
          (λ i l. ap₂ (λ x y. x ⊕ y) (vector_in a k i l ∙ ap (λ x. bit_of x i) q) (vector_in b k i l) ∙ xor_self (bit_of (get_or b k 0) i)) in
          rw (eq-eqb (get_or a k 0) (get_or b k 0) q, z, add-zero (weight (8 * k) v)) (last (not (eqb (weight (8 * k) v) 0)))
      | inr d ↦
          let z : weight (8 * k) v + weight 8 (λ i. v (8 * k + i)) ≡ 0 → ⊥ = λ n. d (same (omega arith)) in
          rw (ne_eqb (get_or a k 0) (get_or b k 0) d, ne_eqb (weight (8 * k) v + weight 8 (λ i. v (8 * k + i))) 0 z)
          (or_right (not (eqb (weight (8 * k) v) 0)) true refl)
    ]) where
      last : (x : Bool) → (x || false) ≡ x
      last true = refl
      last false = refl

      same : weight 8 (λ i. vector a (8 * k + i) ⊕ vector b (8 * k + i)) ≡ 0 → get_or a k 0 ≡ get_or b k 0
      same n =
          byte_same (get_or a k 0) (get_or b k 0) la lb
          (λ i l. sym (vector_in a k i l)
          ∙ (xor_same (vector a (8 * k + i)) (vector b (8 * k + i)) (none_weight 8 (λ i. vector a (8 * k + i) ⊕ vector b (8 * k + i)) n i l)
          ∙ vector_in b k i l))

-- a part of the bytes as a row
part_bit : (w i n : ℕ) (bs : List ℕ) (j : ℕ) → n ≡ w → j < 8 * w → vector (take n (drop (i * w) bs)) j ≡ matrix w bs i j
unfolding vector matrix
part_bit w i n bs j e l =
    let m : j / 8 < n = omega (arith, div_below j 8 w (omega arith) (omega arith)) in
    rw (get_or-take n (drop (i * w) bs) (j / 8) 0 m, get_or-drop (i * w) bs (j / 8) 0)

pub row_differs :
    (w i n long : ℕ) (a b : List ℕ) → n ≡ w → long ≡ w
    → not (eqb (weight (8 * long) (λ j. vector (take n (drop (i * w) a)) j ⊕ vector (take n (drop (i * w) b)) j)) 0)
    ≡ not (eqb (weight (8 * w) (λ j. matrix w a i j ⊕ matrix w b i j)) 0)
row_differs w i n long a b e q =
    rw q
    (ap (λ k. not (eqb k 0))
    (weight_same (8 * w) (λ j. vector (take n (drop (i * w) a)) j ⊕ vector (take n (drop (i * w) b)) j) (λ j. matrix w a i j ⊕ matrix w b i j)
    (λ j l. ap₂ (λ x y. x ⊕ y) (part_bit w i n a j e l) (part_bit w i n b j e l))))
