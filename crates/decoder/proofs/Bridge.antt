-- Error vectors as bits, and as lists over the support.
use Rattle.std.proofs.Common.{◌≡◌, ℕ, ◌+◌, ◌*◌, ◌/◌, ◌%◌, ◌<◌, ◌≤◌, List, map, length, get_or, sym, refl, ap, ◌∙◌, ap₂, mul_comm, arith}
use native.Mathlib.Decide.{dec_lt}
use lib.Bits.{bit_xor}
use Rattle.std.proofs.lemmas.Nat.{div-mul-add, mod-mul-add, mul-add-lt, div_below}
use Rattle.std.proofs.lemmas.List.{length-map, get_or_past}
use Rattle.algebra.specs.Field.{Ops, Laws, Places}
use Rattle.algebra.specs.Ring.{ring_of}
use Rattle.algebra.specs.Series.{Series, ser}
use Rattle.polys.specs.Coefs.{Placed}
use Rattle.polys.proofs.Lists.{coefs_map, coefs_at}
use Rattle.polys.proofs.Bridge.{front}
use Rattle.bits.specs.Vectors.{Vector, times}
use Rattle.bits.proofs.Sums.{dot_same}
use Rattle.matrices.specs.Columns.{number_bit, bits_of}
use Rattle.goppa.specs.Matrix.{column_place, column_bits}
use Rattle.patterson.specs.Columns.{columns_sum}
use Rattle.patterson.specs.Errors.{ErrorVector}
use Rattle.patterson.proofs.Columns.{length_columns}
use Rattle.decoder.specs.Sums.{column_sum}
use Rattle.decoder.specs.Errors.{check_matrix, ErrorOf}
use Rattle.decoder.proofs.Numbers.{same_bits}
use Rattle.decoder.proofs.Vectors.{length_front, weight_front}
use Rattle.decoder.proofs.Sums.{selected_same, columns_front, column_coefficient, column_place_lem, low_selected}

module _ {A : Type 0} {f : Ops A} (k : Laws f) {m : ℕ} (pl : Places A m) (z : pl.at 0 ≡ f.zero)
    (sums : (x y : A) → pl.num (f.add x y) ≡ bit_xor (pl.num x) (pl.num y)) (t : ℕ) (g support : List ℕ) where
  -- a row of H times e is a bit of a coefficient of the sum of columns
  row_bit : (e : Vector) (i : ℕ) → times (length support) (check_matrix f pl t g support) e i ≡ number_bit (pl.num (column_sum f pl t g support (length support) e (i / m))) (i % m)
  unfolding check_matrix column_bits column_sum
  row_bit e i =
      dot_same (length support) (check_matrix f pl t g support i) (λ j. number_bit (pl.num (pl.at (column_place f pl t g (get_or support j 0) (i / m)))) (i % m)) e e
      (λ j l. ap (λ (x : ℕ). number_bit x (i % m)) (sym (column_place_lem k pl z t g (get_or support j 0) (i / m)))) (λ j l. refl)
      ∙ sym (low_selected k pl z sums (length support) (λ j. pl.at (column_place f pl t g (get_or support j 0) (i / m))) e (i % m))

  module _ (s : List ℕ) (syndrome : Vector) (pos : 0 < m) (placed : Placed m s) (reads : (i : ℕ) → i < m * t → bits_of m s i ≡ syndrome i) where
    -- H·e is the syndrome exactly if the sum of columns has its coefficients
    pub sums_are : (e : Vector) → ((i : ℕ) → i < m * t → times (length support) (check_matrix f pl t g support) e i ≡ syndrome i)
        → (r : ℕ) → r < t → get_or s r 0 ≡ pl.num (column_sum f pl t g support (length support) e r)
    unfolding bits_of
    sums_are e h r l =
        same_bits m (get_or s r 0) (pl.num (column_sum f pl t g support (length support) e r)) (placed r) (pl.num_below (column_sum f pl t g support (length support) e r))
        (λ i b.
        let q : (r * m + i) / m ≡ r = div-mul-add r m i b in
        let w : (r * m + i) % m ≡ i = mod-mul-add r m i b in
        let within : r * m + i < m * t = mul-add-lt r m i t l b in
        ap₂ (λ (x y : ℕ). number_bit (get_or s x 0) y) (sym q) (sym w)
        ∙ reads (r * m + i) within ∙ sym (h (r * m + i) within) ∙ row_bit e (r * m + i)
        ∙ ap₂ (λ (x y : ℕ). number_bit (pl.num (column_sum f pl t g support (length support) e x)) y) q w)

    pub sums_from : (e : Vector) → ((r : ℕ) → r < t → get_or s r 0 ≡ pl.num (column_sum f pl t g support (length support) e r))
        → (i : ℕ) → i < m * t → times (length support) (check_matrix f pl t g support) e i ≡ syndrome i
    unfolding bits_of
    sums_from e h i l =
        row_bit e i ∙ ap (λ (x : ℕ). number_bit x (i % m)) (sym (h (i / m) (div_below i m t pos (omega (arith, mul_comm m t))))) ∙ reads i l

    module _ (long : length g ≡ t + 1) (short : length s ≡ t) where
      coefficient : (r : ℕ) → ser (ring_of f) (map pl.at s) r ≡ pl.at (get_or s r 0)
      coefficient r = ap (λ (p : Series A). p r) (coefs_map k pl z s) ∙ coefs_at k pl s r

      columns : (e : Vector) (r : ℕ) → ser (ring_of f) (columns_sum f (map pl.at g) (front (length support) e) (map pl.at support)) r ≡ column_sum f pl t g support (length support) e r
      unfolding column_sum
      columns e r =
          columns_front k pl z (map pl.at g) r support e
          ∙ selected_same k (length support) (λ j. ser (ring_of f) (Rattle.patterson.specs.Columns.column f (map pl.at g) (pl.at (get_or support j 0))) r) (λ j. pl.at (column_place f pl t g (get_or support j 0) r)) e
          (λ j l. column_coefficient k pl z t g (get_or support j 0) r long)

      short_columns : (e : Vector) → length (columns_sum f (map pl.at g) (front (length support) e) (map pl.at support)) ≤ t
      short_columns e = length_columns k (map pl.at g) t (omega (arith, length-map g pl.at)) (front (length support) e) (map pl.at support)

      pub to_vector : (e : Vector) → ErrorOf f pl t g support syndrome e → ErrorVector f (map pl.at g) t (map pl.at s) (map pl.at support) (front (length support) e)
      to_vector e h = record {
        size = length_front (length support) e ∙ sym (length-map support pl.at);
        weighs = weight_front (length support) e ∙ h.weighs;
        sums = λ r. elim (dec_lt r t) [
          | yes l ↦ coefficient r ∙ ap pl.at (sums_are e h.sums r l) ∙ pl.at_num (column_sum f pl t g support (length support) e r) ∙ sym (columns e r)
          | no l ↦
              get_or_past (map pl.at s) r f.zero (omega (arith, length-map s pl.at))
              ∙ sym (get_or_past (columns_sum f (map pl.at g) (front (length support) e) (map pl.at support)) r f.zero (omega (arith, short_columns e)))
        ];
      }

      pub from_vector : (e : Vector) → ErrorVector f (map pl.at g) t (map pl.at s) (map pl.at support) (front (length support) e) → ErrorOf f pl t g support syndrome e
      from_vector e h = record {
        weighs = sym (weight_front (length support) e) ∙ h.weighs;
        sums = sums_from e (λ r l. sym (pl.num_at (get_or s r 0) (placed r)) ∙ ap pl.num (sym (coefficient r) ∙ h.sums r ∙ columns e r));
      }
