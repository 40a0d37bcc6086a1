-- A sum that grows place by place, and [I | M] times a vector.
use Rattle.std.proofs.Common.{◌≡◌, ℕ, ◌+◌, ◌-◌, ◌*◌, ◌/◌, ◌<◌, ◌≤◌, Bool, List, length, take, drop, sym, refl, ap, ◌∙◌, inl, inr, arith}
use Rattle.std.proofs.lemmas.Nat.{div_below}
use Rattle.std.proofs.lemmas.List.{get_or-take, length-drop, take_rest}
use Rattle.std.proofs.lemmas.Bool.{cases_eq, eq-eqb, ne_eqb}
use Rattle.bits.specs.Vectors.{◌⊕◌, Vector, dot, times, systematic}
use Rattle.bits.specs.Packed.{vector, matrix, BitAdded}
use Rattle.bits.proofs.Sums.{xor_zero, dot_same, in_two_parts}
use Rattle.bits.proofs.Places.{vector_drop}

-- ys is xs with f added at the places below i
pub record AddedBelow (i : ℕ) (f : Vector) (xs ys : List ℕ) : Type 0 where
  pub done : (k : ℕ) → k < i → vector ys k ≡ (vector xs k ⊕ f k)
  pub rest : (k : ℕ) → i ≤ k → vector ys k ≡ vector xs k

pub added_none : (f : Vector) (xs : List ℕ) → AddedBelow 0 f xs xs
added_none f xs = record { done = λ k l. absurd (omega arith); rest = λ k l. refl }

pub added_more :
    (i : ℕ) (f : Vector) (b : Bool) (xs ys zs : List ℕ) → AddedBelow i f xs ys → BitAdded i b ys zs → b ≡ f i
    → AddedBelow (i + 1) f xs zs
added_more i f b xs ys zs h a e =
    record {
      done = done;
      rest = λ k l. a k ∙ rw (ne_eqb k i (λ q. omega arith)) (xor_zero (vector ys k) ∙ h.rest k (omega arith));
    } where
      done : (k : ℕ) → k < i + 1 → vector zs k ≡ (vector xs k ⊕ f k)
      done k l =
          elim (cases_eq k i) [
            | inl q ↦ a k ∙ rw (q, eq-eqb i i refl, h.rest i (omega arith), e)
            | inr d ↦ a k ∙ rw (ne_eqb k i d) (xor_zero (vector ys k) ∙ h.done k (omega arith))
          ]

vector_take : (n : ℕ) (xs : List ℕ) (i : ℕ) → i < 8 * n → vector (take n xs) i ≡ vector xs i
unfolding vector
vector_take n xs i l = rw (get_or-take n xs (i / 8) 0 (div_below i 8 n (omega arith) (omega arith)))

-- the front of v, with M times the rest of v added
pub two_parts :
    (f : ℕ) (m v zs : List ℕ) → f ≤ length v
    → ((i : ℕ) → i < 8 * f → vector zs i ≡ (vector (take f v) i ⊕ dot (8 * length (take (length v - f) (drop f v))) (matrix (length (take (length v - f) (drop f v))) m i) (vector (take (length v - f) (drop f v)))))
    → (i : ℕ) → i < 8 * f → vector zs i ≡ times (8 * length v) (systematic (8 * f) (matrix (length v - f) m)) (vector v) i
two_parts f m v zs lf h i l = h i l ∙ (rw (vector_take f v i l) (ap (λ t. vector v i ⊕ t) (short ∙ shifted)) ∙ sym whole) where
  k : ℕ
  k = length v - f

  short : dot (8 * length (take k (drop f v))) (matrix (length (take k (drop f v))) m i) (vector (take k (drop f v))) ≡ dot (8 * k) (matrix k m i) (vector (drop f v))
  short = rw (take_rest v f, length-drop f v)

  shifted : dot (8 * k) (matrix k m i) (vector (drop f v)) ≡ dot (8 * k) (matrix k m i) (λ j. vector v (8 * f + j))
  shifted = dot_same (8 * k) (matrix k m i) (matrix k m i) (vector (drop f v)) (λ j. vector v (8 * f + j)) (λ j p. refl) (λ j p. vector_drop f v j)

  whole : times (8 * length v) (systematic (8 * f) (matrix k m)) (vector v) i ≡ (vector v i ⊕ dot (8 * k) (matrix k m i) (λ j. vector v (8 * f + j)))
  whole =
      let s : 8 * length v ≡ 8 * f + 8 * k = omega arith in
      rw s (in_two_parts (8 * f) (8 * k) (matrix k m) (vector v) i l)
