-- The answers of the tests, by the numbers that they find.
use Rattle.std.proofs.Common.{◌≡◌, ℕ, ◌+◌, ◌^◌, ◌<◌, ◌≤◌, Bool, not, ◌||◌, eqb, List, [], ◌∷◌, take, Ok, Err, Result, refl}
use Rattle.levels.specs.declared.Sizes.{Sizes}
use Rattle.levels.specs.declared.faults.Defect.TheVariants.{Support, Coefficient, Clash, Zeros, Matrix, Rank}
use Rattle.levels.specs.declared.faults.Fault.{Fault}
use Rattle.levels.specs.declared.faults.Fault.TheVariants.{Unsound}
use Rattle.levels.specs.Rows.{answer}
use Rattle.algebra.specs.Field.{Ops, Places}
use Rattle.bits.specs.Vectors.{◌⊕◌, weight}
use Rattle.bits.specs.Words.{word}
use Rattle.bits.specs.Search.{first_place}
use Rattle.bits.specs.Rank.{rank_of}
use Rattle.shuffles.specs.Orders.{among}
use Rattle.keys.specs.Secret.{support_in, goppa_in, matrix_in, mixed_in}
use Rattle.keys.specs.Sound.{no_place, zero_at, coefficient_row, clash_row, zeros_row, rank_row}
use Rattle.soundness.specs.Parts.{code_rows, matrix_rows}
use Rattle.soundness.proofs.Answering.{place_stops, place_passes, number_stops, number_passes}

-- the bad places of each test
abbrev pub unfit : ℕ → Sizes → List ℕ → ℕ → Bool
unfit m s key j = no_place m (word key j) || among (take j (support_in s key)) (word key j)

abbrev pub outside : ℕ → Sizes → List ℕ → ℕ → Bool
outside m s key i = no_place m (word key (s.n + i))

module _ {A : Type 0} {m : ℕ} (f : Ops A) (pl : Places A m) (s : Sizes) (key : List ℕ) where
  abbrev pub clashes : ℕ → Bool
  clashes j = zero_at f pl (goppa_in f pl s key) (word key j)

  abbrev pub zero_count : ℕ
  zero_count = weight (2 ^ m) (zero_at f pl (goppa_in f pl s key))

  abbrev pub differs : ℕ → Bool
  differs i = not (eqb (weight s.rows (λ j. matrix_in s key i j ⊕ mixed_in f pl s key i j)) 0)

  abbrev pub rank_in : ℕ
  rank_in = rank_of s.rows (matrix_in s key) s.rows

  -- the tests of the code, up to the first that fails
  module _ (a : ℕ) (ea : a ≡ first_place s.n (unfit m s key)) where
    pub support_fails : a < s.n → Err (Unsound (Support a)) ≡ answer (code_rows f pl s key)
    support_fails = place_stops s.n a (unfit m s key) Support (coefficient_row m s key ∷ clash_row f pl s key ∷ zeros_row f pl s key ∷ []) ea

    module _ (la : s.n ≤ a) (b : ℕ) (eb : b ≡ first_place s.t (outside m s key)) where
      past_support : (x : Result (Unit {0}) Fault) → x ≡ answer (coefficient_row m s key ∷ clash_row f pl s key ∷ zeros_row f pl s key ∷ []) → x ≡ answer (code_rows f pl s key)
      past_support x = place_passes s.n a (unfit m s key) Support (coefficient_row m s key ∷ clash_row f pl s key ∷ zeros_row f pl s key ∷ []) ea x la

      pub coefficient_fails : b < s.t → Err (Unsound (Coefficient b)) ≡ answer (code_rows f pl s key)
      coefficient_fails l = past_support _ (place_stops s.t b (outside m s key) Coefficient (clash_row f pl s key ∷ zeros_row f pl s key ∷ []) eb l)

      module _ (lb : s.t ≤ b) (d : ℕ) (ed : d ≡ first_place s.n clashes) where
        past_coefficients : (x : Result (Unit {0}) Fault) → x ≡ answer (clash_row f pl s key ∷ zeros_row f pl s key ∷ []) → x ≡ answer (code_rows f pl s key)
        past_coefficients x h = past_support x (place_passes s.t b (outside m s key) Coefficient (clash_row f pl s key ∷ zeros_row f pl s key ∷ []) eb x lb h)

        pub clash_fails : d < s.n → Err (Unsound (Clash d)) ≡ answer (code_rows f pl s key)
        clash_fails l = past_coefficients _ (place_stops s.n d clashes Clash (zeros_row f pl s key ∷ []) ed l)

        module _ (ld : s.n ≤ d) (found : ℕ) (ef : found ≡ zero_count) where
          past_clashes : (x : Result (Unit {0}) Fault) → x ≡ answer (zeros_row f pl s key ∷ []) → x ≡ answer (code_rows f pl s key)
          past_clashes x h = past_coefficients x (place_passes s.n d clashes Clash (zeros_row f pl s key ∷ []) ed x ld h)

          pub zeros_fail : (found ≡ s.t → ⊥) → Err (Unsound (Zeros found)) ≡ answer (code_rows f pl s key)
          zeros_fail n = past_clashes _ (number_stops zero_count s.t found Zeros [] ef n)

          pub code_passes : found ≡ s.t → Ok tt ≡ answer (code_rows f pl s key)
          code_passes e = past_clashes (Ok tt) (number_passes zero_count s.t found Zeros [] ef (Ok tt) e refl)

  -- and those of the matrix
  module _ (a : ℕ) (ea : a ≡ first_place s.rows differs) where
    pub matrix_fails : a < s.rows → Err (Unsound (Matrix a)) ≡ answer (matrix_rows f pl s key)
    matrix_fails = place_stops s.rows a differs Matrix (rank_row s key ∷ []) ea

    module _ (la : s.rows ≤ a) (found : ℕ) (ef : found ≡ rank_in) where
      past_matrix : (x : Result (Unit {0}) Fault) → x ≡ answer (rank_row s key ∷ []) → x ≡ answer (matrix_rows f pl s key)
      past_matrix x = place_passes s.rows a differs Matrix (rank_row s key ∷ []) ea x la

      pub rank_fails : (found ≡ s.rows → ⊥) → Err (Unsound (Rank found)) ≡ answer (matrix_rows f pl s key)
      rank_fails n = past_matrix _ (number_stops rank_in s.rows found Rank [] ef n)

      pub matrix_passes : found ≡ s.rows → Ok tt ≡ answer (matrix_rows f pl s key)
      matrix_passes e = past_matrix (Ok tt) (number_passes rank_in s.rows found Rank [] ef (Ok tt) e refl)
