-- A syndrome has one error vector at most.
use Rattle.std.proofs.Common.{◌≡◌, ℕ, ◌+◌, ◌*◌, ◌<◌, ◌≤◌, List, map, length, get_or, sym, refl, ◌∙◌, inl, inr, arith, pow_pos}
use lib.Bits.{bit_xor}
use Rattle.std.specs.List.{range_with_len}
use Rattle.std.proofs.lemmas.List.FromFn.{length-map-range_with_len, get_or-map-range_with_len}
use Rattle.std.proofs.lemmas.List.{get_or_past}
use Rattle.std.proofs.lemmas.Bool.{cases_lt}
use Rattle.algebra.specs.Field.{Ops, Places}
use Rattle.polys.specs.Coefs.{Placed}
use Rattle.polys.specs.Values.{value}
use Rattle.polys.proofs.Bridge.{front}
use Rattle.bits.specs.Vectors.{Vector}
use Rattle.matrices.specs.Columns.{bits_of}
use Rattle.patterson.specs.Code.{Perfect}
use Rattle.patterson.proofs.Theorems.{one_vector}
use Rattle.decoder.specs.Codes.{CodeOf}
use Rattle.decoder.specs.Errors.{ErrorOf}
use Rattle.decoder.specs.Sums.{column_sum}
use Rattle.decoder.proofs.Bridge.{sums_from}
use Rattle.decoder.proofs.Lists.{goppa_code}
use Rattle.decoder.proofs.Vectors.{front_same}
use Rattle.decoder.proofs.Decided.{by_values}

module _ {A : Type 0} {f : Ops A} (q : Perfect f) {m : ℕ} (pl : Places A m) (z : pl.at 0 ≡ f.zero)
    (sums : (x y : A) → pl.num (f.add x y) ≡ bit_xor (pl.num x) (pl.num y)) (t : ℕ) (g support zeros : List ℕ) (syndrome : Vector)
    (long : length g ≡ t + 1) (some : 1 ≤ length support) (pos : 0 < m) (code : CodeOf f pl t g support zeros) where
  -- the coefficients of the sum of columns that a vector selects
  sum_of : Vector → List ℕ
  sum_of e = map (λ r. pl.num (column_sum f pl t g support (length support) e r)) (range_with_len 0 t)

  sum_at : (e : Vector) (r : ℕ) → r < t → get_or (sum_of e) r 0 ≡ pl.num (column_sum f pl t g support (length support) e r)
  unfolding sum_of
  sum_at e r l = get_or-map-range_with_len (λ r. pl.num (column_sum f pl t g support (length support) e r)) 0 t r r 0 l (omega arith)

  sum_length : (e : Vector) → length (sum_of e) ≡ t
  unfolding sum_of
  sum_length e = length-map-range_with_len (λ r. pl.num (column_sum f pl t g support (length support) e r)) 0 t

  sum_placed : (e : Vector) → Placed m (sum_of e)
  sum_placed e r =
      elim (cases_lt r t) [
        | inl l ↦ rw (sum_at e r l) (pl.num_below (column_sum f pl t g support (length support) e r))
        | inr l ↦ rw (get_or_past (sum_of e) r 0 (omega (arith, sum_length e))) (pow_pos m)
      ]

  pub one_error : (c d : Vector) → ErrorOf f pl t g support syndrome c → ErrorOf f pl t g support syndrome d → (j : ℕ) → j < length support → c j ≡ d j
  one_error c d ec ed =
      let s = sum_of c in
      let reads : (i : ℕ) → i < m * t → bits_of m s i ≡ syndrome i =
      λ i l. sym (sums_from q.laws pl z sums t g support s (bits_of m s) pos (sum_placed c) (λ j b. refl) c (sum_at c) i l) ∙ ec.sums i l in
      front_same (length support) c d
      (one_vector q t (value f pl g) (value f pl s) (map pl.at zeros) (map pl.at support) (goppa_code f pl t g support zeros some code)
      (front (length support) c) (front (length support) d)
      (by_values q pl z sums t g support zeros s syndrome long (sum_length c) some pos (sum_placed c) reads code c ec)
      (by_values q pl z sums t g support zeros s syndrome long (sum_length c) some pos (sum_placed c) reads code d ed))
