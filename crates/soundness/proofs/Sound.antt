-- What a sound key is: its tests, each as a fact, and the Goppa code that it holds.
use Rattle.std.proofs.Common.{◌≡◌, ℕ, zero, suc, ◌+◌, ◌^◌, ◌<◌, true, false, eqb, ltb, List, [], ◌∷◌, map, length, get_or, take, Ok, sym, ap, ◌∙◌, inl, inr, arith}
use Rattle.std.proofs.lemmas.List.{get_or-take, get_or-map, length-map, length-take-le}
use Rattle.std.proofs.lemmas.Bool.{both_ways, cases_order, or_left, or_right, or_parts, ltb-true, eqb-true, not-false, eq-eqb}
use Rattle.levels.specs.declared.Sizes.{Sizes}
use Rattle.levels.specs.declared.faults.Defect.TheVariants.{Support, Coefficient, Clash, Zeros, Matrix, Rank}
use Rattle.levels.specs.Table.{Lawful}
use Rattle.levels.specs.Rows.{answer}
use Rattle.algebra.specs.Field.{Ops, Laws, Places}
use Rattle.algebra.specs.Poly.{eval}
use Rattle.polys.specs.Values.{value}
use Rattle.bits.specs.Vectors.{weight}
use Rattle.bits.specs.Words.{word}
use Rattle.bits.specs.Kernels.{independent, Echelon}
use Rattle.bits.proofs.Existence.{reduced_exists}
use Rattle.bits.proofs.RankOf.{rank_same, full_independent}
use Rattle.shuffles.specs.Orders.{among}
use Rattle.patterson.specs.Points.{In, Distinct}
use Rattle.patterson.specs.Code.{GoppaCode}
use Rattle.keys.specs.Secret.{support_in, goppa_in, matrix_in, mixed_in, key_matrix}
use Rattle.keys.specs.Sound.{no_place, zero_at, coefficient_row, clash_row, zeros_row, rank_row, Sound}
use Rattle.soundness.specs.Parts.{code_rows, matrix_rows}
use Rattle.soundness.specs.Zeros.{zero_places}
use Rattle.soundness.proofs.Answering.{place_passed, number_passed}
use Rattle.soundness.proofs.Numbers.{support_long, support_entry, same_rows}
use Rattle.soundness.proofs.Chains.{unfit, outside, clashes, zero_count, differs, rank_in}
use Rattle.soundness.proofs.Points.{passing_count, in_passing, passing_in, passing_differ, in_at, differ_from}

is_place : (m x : ℕ) → no_place m x ≡ false → x < 2 ^ m
is_place m x e = ltb-true x (2 ^ m) (not-false (ltb x (2 ^ m)) e)

-- what stands in a list is among its numbers
among_here : (l : List ℕ) (i x : ℕ) → i < length l → x ≡ get_or l i 0 → among l x ≡ true
unfolding among
among_here [] i x p e = absurd (omega arith)
among_here (y ∷ l) zero x p e = or_left (eqb x y) (among l x) (eq-eqb x y e)
among_here (y ∷ l) (suc i) x p e = or_right (eqb x y) (among l x) (among_here l i x (omega arith) e)

-- places number different elements
at_once : {A : Type 0} {m : ℕ} (pl : Places A m) (i j : ℕ) → i < 2 ^ m → j < 2 ^ m → pl.at i ≡ pl.at j → i ≡ j
at_once pl i j p q e = sym (pl.num_at i p) ∙ (ap pl.num e ∙ pl.num_at j q)

module _ {A : Type 0} {m : ℕ} (f : Ops A) (pl : Places A m) (z : pl.at 0 ≡ f.zero) where
  -- the test of a zero
  pub no_zero : (g : List ℕ) (x : ℕ) → zero_at f pl g x ≡ false → value f pl g (pl.at x) ≡ f.zero → ⊥
  no_zero g x e q =
      both_ways (zero_at f pl g x) e
      (eq-eqb (pl.num (value f pl g (pl.at x))) 0 (ap pl.num (q ∙ sym z) ∙ pl.num_at 0 (omega (arith, pl.num_below f.zero))))

  a_zero : (g : List ℕ) (x : ℕ) → zero_at f pl g x ≡ true → value f pl g (pl.at x) ≡ f.zero
  a_zero g x e =
      sym (pl.at_num (value f pl g (pl.at x))) ∙ (ap pl.at (eqb-true (pl.num (value f pl g (pl.at x))) 0 e) ∙ z)

  zero_found : (g : List ℕ) (x : ℕ) → value f pl g (pl.at x) ≡ f.zero → zero_at f pl g x ≡ true
  zero_found g x e = eq-eqb (pl.num (value f pl g (pl.at x))) 0 (ap pl.num (e ∙ sym z) ∙ pl.num_at 0 (omega (arith, pl.num_below f.zero)))

-- what the tests say, one by one
record Tested {A : Type 0} {m : ℕ} (f : Ops A) (pl : Places A m) (s : Sizes) (key : List ℕ) : Type 0 where
  support : (j : ℕ) → j < s.n → unfit m s key j ≡ false
  coefficients : (i : ℕ) → i < s.t → outside m s key i ≡ false
  off : (j : ℕ) → j < s.n → clashes f pl s key j ≡ false
  zeros : zero_count f pl s key ≡ s.t
  rows : (i : ℕ) → i < s.rows → differs f pl s key i ≡ false
  rank : rank_in f pl s key ≡ s.rows

tested : {A : Type 0} {m : ℕ} (f : Ops A) (pl : Places A m) (s : Sizes) (key : List ℕ) → Sound f pl s key → Tested f pl s key
tested {m = m} f pl s key e =
    let p₁ = place_passed s.n (unfit m s key) Support (coefficient_row m s key ∷ clash_row f pl s key ∷ zeros_row f pl s key ∷ matrix_rows f pl s key) e in
    let p₂ = place_passed s.t (outside m s key) Coefficient (clash_row f pl s key ∷ zeros_row f pl s key ∷ matrix_rows f pl s key) p₁.1 in
    let p₃ = place_passed s.n (clashes f pl s key) Clash (zeros_row f pl s key ∷ matrix_rows f pl s key) p₂.1 in
    let p₄ = number_passed (zero_count f pl s key) s.t Zeros (matrix_rows f pl s key) p₃.1 in
    let p₅ = place_passed s.rows (differs f pl s key) Matrix (rank_row s key ∷ []) p₄.1 in
    let p₆ = number_passed (rank_in f pl s key) s.rows Rank [] p₅.1 in
    record { support = p₁.0; coefficients = p₂.0; off = p₃.0; zeros = p₄.0; rows = p₅.0; rank = p₆.0 }

-- no support entry of a code that passes its tests is a zero of g
pub code_off :
    {A : Type 0} {m : ℕ} (f : Ops A) (pl : Places A m) → pl.at 0 ≡ f.zero → (s : Sizes) (key : List ℕ) → answer (code_rows f pl s key) ≡ Ok tt
    → (j : ℕ) → j < s.n → value f pl (goppa_in f pl s key) (pl.at (get_or (support_in s key) j 0)) ≡ f.zero → ⊥
code_off {m = m} f pl z s key e j l q =
    let p₁ = place_passed s.n (unfit m s key) Support (coefficient_row m s key ∷ clash_row f pl s key ∷ zeros_row f pl s key ∷ []) e in
    let p₂ = place_passed s.t (outside m s key) Coefficient (clash_row f pl s key ∷ zeros_row f pl s key ∷ []) p₁.1 in
    let p₃ = place_passed s.n (clashes f pl s key) Clash (zeros_row f pl s key ∷ []) p₂.1 in
    no_zero f pl z (goppa_in f pl s key) (get_or (support_in s key) j 0) (ap (zero_at f pl (goppa_in f pl s key)) (support_entry s key j l) ∙ p₃.0 j l) q

module _ {A : Type 0} {m : ℕ} {f : Ops A} (k : Laws f) (pl : Places A m) (z : pl.at 0 ≡ f.zero) (s : Sizes) (h : Lawful s) (key : List ℕ) (sound : Sound f pl s key) where
  -- each support entry is a place
  pub sound_support_below : (j : ℕ) → j < s.n → word key j < 2 ^ m
  sound_support_below j l =
      is_place m (word key j) (or_parts (no_place m (word key j)) (among (take j (support_in s key)) (word key j)) ((tested f pl s key sound).support j l)).0

  no_earlier : (i j : ℕ) → i < j → j < s.n → word key i ≡ word key j → ⊥
  no_earlier i j p l e =
      let n = support_long s key in
      both_ways (among (take j (support_in s key)) (word key j))
      (or_parts (no_place m (word key j)) (among (take j (support_in s key)) (word key j)) ((tested f pl s key sound).support j l)).1
      (among_here (take j (support_in s key)) i (word key j) (omega (arith, length-take-le j (support_in s key) (omega arith)))
      (sym (get_or-take j (support_in s key) i 0 p ∙ (support_entry s key i (omega arith) ∙ e))))

  -- and they differ
  pub sound_support_different : (i j : ℕ) → i < s.n → j < s.n → word key i ≡ word key j → i ≡ j
  sound_support_different i j p q e =
      elim (cases_order i j) [ inl d ↦ d | inr o ↦ elim o [ inl l ↦ absurd (no_earlier i j l q e) | inr l ↦ absurd (no_earlier j i l p (sym e)) ] ]

  -- each coefficient is a place
  pub sound_coefficient : (i : ℕ) → i < s.t → word key (s.n + i) < 2 ^ m
  sound_coefficient i l = is_place m (word key (s.n + i)) ((tested f pl s key sound).coefficients i l)

  -- no support entry is a zero of g
  pub sound_off : (j : ℕ) → j < s.n → value f pl (goppa_in f pl s key) (pl.at (word key j)) ≡ f.zero → ⊥
  sound_off j l = no_zero f pl z (goppa_in f pl s key) (word key j) ((tested f pl s key sound).off j l)

  -- g has t zeros
  pub sound_zeros : weight (2 ^ m) (zero_at f pl (goppa_in f pl s key)) ≡ s.t
  sound_zeros = (tested f pl s key sound).zeros

  -- the written matrix is the front of HP
  pub sound_matrix : (i j : ℕ) → i < s.rows → j < s.rows → matrix_in s key i j ≡ mixed_in f pl s key i j
  sound_matrix = same_rows s.rows (matrix_in s key) (mixed_in f pl s key) (tested f pl s key sound).rows

  -- it is invertible
  pub sound_rank : independent s.rows (mixed_in f pl s key) ≡ true
  sound_rank =
      full_independent s.rows (mixed_in f pl s key)
      (rank_same s.rows s.rows (mixed_in f pl s key) (matrix_in s key) sound_matrix ∙ (tested f pl s key sound).rank)

  -- [I | M], with the key's M, is the reduced row echelon form of HP
  pub sound_echelon : Echelon s.rows s.k (mixed_in f pl s key) (key_matrix f pl s key)
  sound_echelon = reduced_exists s.rows s.k (mixed_in f pl s key) sound_rank

  -- the zeros of g, as a list: t of them
  pub zero_places_count : length (zero_places f pl (goppa_in f pl s key)) ≡ s.t
  zero_places_count = passing_count (2 ^ m) (zero_at f pl (goppa_in f pl s key)) ∙ sound_zeros

  -- which differ
  pub zero_places_differ : Distinct (map pl.at (zero_places f pl (goppa_in f pl s key)))
  zero_places_differ = passing_differ pl.at (2 ^ m) (2 ^ m) (zero_at f pl (goppa_in f pl s key)) (omega arith) (at_once pl)

  -- g is zero at each
  pub zero_places_zero : (x : A) → In x (map pl.at (zero_places f pl (goppa_in f pl s key))) → value f pl (goppa_in f pl s key) x ≡ f.zero
  zero_places_zero x i =
      let w = in_passing pl.at (2 ^ m) (zero_at f pl (goppa_in f pl s key)) x i in
      ap (value f pl (goppa_in f pl s key)) w.1.1.1 ∙ a_zero f pl z (goppa_in f pl s key) w.0 w.1.1.0

  -- and nowhere else
  pub zero_places_only : (x : A) → value f pl (goppa_in f pl s key) x ≡ f.zero → In x (map pl.at (zero_places f pl (goppa_in f pl s key)))
  zero_places_only x e =
      rw (pl.at_num x) at (passing_in pl.at (2 ^ m) (zero_at f pl (goppa_in f pl s key)) (pl.num x) (pl.num_below x)
      (zero_found f pl z (goppa_in f pl s key) (pl.num x) (ap (value f pl (goppa_in f pl s key)) (pl.at_num x) ∙ e)))

  entry_at : (j : ℕ) → j < s.n → get_or (map pl.at (support_in s key)) j (pl.at 0) ≡ pl.at (word key j)
  entry_at j l = get_or-map pl.at (support_in s key) j 0 (pl.at 0) (omega (arith, support_long s key)) ∙ ap pl.at (support_entry s key j l)

  entries_long : length (map pl.at (support_in s key)) ≡ s.n
  entries_long = length-map (support_in s key) pl.at ∙ support_long s key

  -- the elements of the support differ
  pub support_differs : Distinct (map pl.at (support_in s key))
  support_differs =
      differ_from (pl.at 0) (map pl.at (support_in s key)) once where
        once :
            (i j : ℕ) → i < length (map pl.at (support_in s key)) → j < length (map pl.at (support_in s key))
            → get_or (map pl.at (support_in s key)) i (pl.at 0) ≡ get_or (map pl.at (support_in s key)) j (pl.at 0) → i ≡ j
        once i j p q e =
            let n = entries_long in
            sound_support_different i j (omega arith) (omega arith)
            (at_once pl (word key i) (word key j) (sound_support_below i (omega arith)) (sound_support_below j (omega arith))
            (sym (entry_at i (omega arith)) ∙ (e ∙ entry_at j (omega arith))))

  apart : (x : A) → In x (map pl.at (zero_places f pl (goppa_in f pl s key))) → In x (map pl.at (support_in s key)) → ⊥
  apart x i q =
      let w = in_at (pl.at 0) x (map pl.at (support_in s key)) q in
      let m = w.1.0 in
      let l : w.0 < s.n = omega (arith, entries_long) in
      sound_off w.0 l (ap (value f pl (goppa_in f pl s key)) (sym (w.1.1 ∙ entry_at w.0 l)) ∙ zero_places_zero x i)

  -- the Goppa code of the key
  pub sound_code : GoppaCode f s.t (value f pl (goppa_in f pl s key)) (map pl.at (zero_places f pl (goppa_in f pl s key))) (map pl.at (support_in s key))
  sound_code =
      record {
        splits =
            record {
              differ = zero_places_differ;
              count = length-map (zero_places f pl (goppa_in f pl s key)) pl.at ∙ zero_places_count;
              zeros = zero_places_zero;
              some = λ v. sound_off 0 (omega (arith, h.corrects, h.weight)) (v (pl.at (word key 0)));
            };
        support = record { differ = support_differs; apart = apart };
      }

  -- the same, with g by its coefficients
  pub sound_code_by_coefficients :
      GoppaCode f s.t (eval f (map pl.at (goppa_in f pl s key))) (map pl.at (zero_places f pl (goppa_in f pl s key))) (map pl.at (support_in s key))
  unfolding value
  sound_code_by_coefficients = sound_code
