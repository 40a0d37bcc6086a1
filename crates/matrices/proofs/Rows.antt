-- Rows of bytes as rows of bits.
use Rattle.std.proofs.Common.{◌≡◌, ℕ, ◌+◌, ◌*◌, ◌/◌, ◌%◌, ◌<◌, ◌≤◌, List, ◌++◌, length, get_or, take, drop, bit_xor, sym, ap, append_assoc, ◌∙◌, inl, inr, arith, rules}
use borrow.Rule.Slice.PartMut.{put_mid}
use Rattle.std.proofs.lemmas.Nat.{div_below}
use Rattle.std.proofs.lemmas.List.{get_or-take, get_or-drop, places, length-take-le, drop-drop, drop-append-le, take-append-drop, take-take}
use Rattle.std.proofs.lemmas.Bool.{cases_lt, cases_eq}
use Rattle.bits.specs.Vectors.{◌⊕◌}
use Rattle.bits.specs.Packed.{vector, matrix}
use Rattle.bits.specs.Elimination.{Added}
use Rattle.bits.proofs.Places.{bit_of_xor}
use Rattle.matrices.specs.Rows.{RowWithin, Apart, Summed, Copied, ColumnsCopied}
use Rattle.matrices.proofs.Bytes.{row_before}

pub entry_is : (w i j : ℕ) (bs : List ℕ) → vector (drop (i * w) bs) j ≡ matrix w bs i j
unfolding vector matrix
entry_is w i j bs = rw (get_or-drop (i * w) bs (j / 8) 0)

pub rows_apart : (w i k : ℕ) → (i ≡ k → ⊥) → Apart w (i * w) (k * w)
rows_apart w i k d =
    elim (cases_lt i k) [ inl l ↦ inl (row_before w i k l) | inr l ↦ inr (row_before w k i (omega arith)) ]

pub row_within : (w r i : ℕ) (bs : List ℕ) → i < r → r * w ≤ length bs → RowWithin w i bs
row_within w r i bs l m = omega (arith, row_before w i r l)

byte_of : (w j : ℕ) → j < 8 * w → j / 8 < w
byte_of w j l = div_below j 8 w (omega arith) (omega arith)

pub entry_within : (w r i j : ℕ) (bs : List ℕ) → i < r → j < 8 * w → r * w ≤ length bs → i * w + j / 8 < length bs
entry_within w r i j bs l m h = omega (arith, byte_of w j m, row_before w i r l)

pub added_row :
    (w from into : ℕ) (xs ys : List ℕ) → Summed w (into * w) (from * w) xs ys → Added (8 * w) from into (matrix w xs) (matrix w ys)
unfolding matrix
added_row w from into xs ys h = (others, sum) where
  others : (i j : ℕ) → j < 8 * w → (i ≡ into → ⊥) → matrix w ys i j ≡ matrix w xs i j
  others i j l d =
      let b : j / 8 < w = byte_of w j l in
      elim (rows_apart w i into d) [
        | inl p ↦ rw (h.before (i * w + j / 8) (omega arith))
        | inr p ↦ rw (h.after (i * w + j / 8) (omega arith))
      ]

  sum : (j : ℕ) → j < 8 * w → matrix w ys into j ≡ (matrix w xs into j ⊕ matrix w xs from j)
  sum j l =
      rw (h.done (j / 8) (byte_of w j l))
      (bit_of_xor (get_or xs (into * w + j / 8) 0) (get_or xs (from * w + j / 8) 0) (j % 8))

-- the byte at k of a part
pub part_at : (n f k : ℕ) (xs : List ℕ) → k < n → get_or (take n (drop f xs)) k 0 ≡ get_or xs (f + k) 0
part_at n f k xs l = get_or-take n (drop f xs) k 0 l ∙ get_or-drop f xs k 0

-- sums written over the n bytes from a on
module _ (n a b : ℕ) (xs ys : List ℕ) (ly : length ys ≡ n) (each : (k : ℕ) → k < n → get_or ys k 0 ≡ bit_xor (get_or xs (a + k) 0) (get_or xs (b + k) 0)) where
  pub summed_part : a + n ≤ length xs → Summed n a b xs (put_mid a n xs ys)
  summed_part l =
      record {
        done = λ k m. let e : get_or (put_mid a n xs ys) (a + k) 0 ≡ get_or ys k 0 = search (rules, places) in e ∙ each k m;
        before = λ k m. search (rules, places);
        after = λ k m. search (rules, places);
      }

  -- the same, where the bytes up to f stand apart from the rest
  pub summed_front : (f : ℕ) → a + n ≤ f → f ≤ length xs → Summed n a b xs (put_mid a n (take f xs) ys ++ drop f xs)
  summed_front f l m =
      let t = take f xs in
      let lt : length t ≡ f = length-take-le f xs m in
      let d : drop n (drop a t) ++ drop f xs ≡ drop n (drop a xs) =
      rw (drop-drop n a t, drop-drop n a xs)
      (sym (drop-append-le (a + n) t (drop f xs) (omega arith)) ∙ ap (λ (l : List ℕ). drop (a + n) l) (take-append-drop f xs)) in
      let e : put_mid a n t ys ++ drop f xs ≡ put_mid a n xs ys =
      rw (take-take a f xs (omega arith))
      (append_assoc (take a xs) (ys ++ drop n (drop a t)) (drop f xs)
      ∙ ap (λ (l : List ℕ). take a xs ++ l) (append_assoc ys (drop n (drop a t)) (drop f xs) ∙ ap (λ (l : List ℕ). ys ++ l) d)) in
      rw e (summed_part (omega arith))

-- a loop that copies some columns of one row after another
pub copied_more :
    (w s skip r : ℕ) (xs ys zs us : List ℕ) → Copied s (r * w + skip) (r * s) xs zs us → ColumnsCopied w s skip r xs ys zs
    → ColumnsCopied w s skip (r + 1) xs ys us
unfolding matrix
copied_more w s skip r xs ys zs us h g =
    record {
      columns =
          λ i j l m. elim (cases_eq i r) [
            | inl e ↦ here i j m e
            | inr d ↦
                rw (h.before (i * s + j / 8) (omega (arith, row_before s i r (omega arith), byte_of s j m)))
                (g.columns i j (omega arith) m)
          ];
      rest =
          λ k l. let b = row_before s r (r + 1) (omega arith) in
          h.after k (omega arith) ∙ g.rest k (omega arith);
    } where
      here : (i j : ℕ) → j < 8 * s → i ≡ r → matrix s us i j ≡ matrix w xs i (8 * skip + j)
      here i j m e =
          let d : (8 * skip + j) / 8 ≡ skip + j / 8 = omega arith in
          let q : (8 * skip + j) % 8 ≡ j % 8 = omega arith in
          let a : r * w + (skip + j / 8) ≡ r * w + skip + j / 8 = omega arith in
          rw (e, d, q, a, h.done (j / 8) (byte_of s j m))
