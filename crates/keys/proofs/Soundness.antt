-- The secret key of seeds is sound, if its mixing seed is usable.
use Rattle.std.proofs.Common.{◌≡◌, ℕ, zero, suc, ◌+◌, ◌-◌, ◌^◌, ◌<◌, ◌≤◌, Bool, true, false, cond, not, ◌||◌, eqb, ltb, List, [], ◌∷◌, length, get_or, take, Ok, Err, sym, refl, ap, ◌∙◌, ap₂, inl, inr, arith}
use Rattle.std.proofs.lemmas.List.{take-take, get_or-take}
use Rattle.std.proofs.lemmas.Bool.{cases_lt, eq-eqb, ne_eqb, lt-ltb, le-ltb, or_from, not_from_true, cond-false}
use Rattle.levels.specs.declared.Sizes.{Sizes}
use Rattle.levels.specs.Table.{Lawful}
use Rattle.levels.specs.Rows.{Row, answer}
use Rattle.algebra.specs.Field.{Ops, Laws, Places}
use Rattle.polys.specs.Values.{value}
use Rattle.bits.specs.Vectors.{◌⊕◌, Vector, Matrix, weight}
use Rattle.bits.specs.Words.{word}
use Rattle.bits.specs.Search.{first_place}
use Rattle.bits.specs.Rank.{rank_of}
use Rattle.bits.proofs.Decision.{weight_none}
use Rattle.bits.proofs.RankOf.{rank_same, rank_full}
use Rattle.bits.proofs.Search.{first_none}
use Rattle.bits.proofs.Sums.{xor_self}
use Rattle.shuffles.specs.Orders.{place_of, among, Permutation}
use Rattle.shuffles.proofs.Orders.{at_place, place_of_lem, among_first}
use Rattle.shuffles.proofs.Marks.{weight_among}
use Rattle.goppa.specs.Codes.{code_list}
use Rattle.keys.specs.Secret.{support_in, goppa_in, matrix_in, mixed_in}
use Rattle.keys.specs.Sound.{no_place, zero_at, sound_rows, Sound}
use Rattle.keys.specs.Seeds.{support_of_seed, zeros_of, goppa_of, mixed_of, usable, secret_key_of}
use Rattle.keys.proofs.Goppa.{code_permutes, support_length, zeros_length, zeros_at, support_below, goppa_length, goppa_placed, goppa_top, goppa_zeros, off}
use Rattle.keys.proofs.Reading.{read_support_word, read_coefficient, read_support, read_goppa, read_matrix, read_mixing}

abbrev NoneApplies : List Row → Type 0
NoneApplies [] = Unit {0}
NoneApplies (r ∷ rows) = (r.applies ≡ false) × NoneApplies rows

none_answers : (rows : List Row) → NoneApplies rows → answer rows ≡ Ok tt
none_answers [] h = refl
none_answers (r ∷ rows) h = cond-false r.applies (Err r.fault) (answer rows) h.0 ∙ none_answers rows h.1

-- no place is bad
no_place_bad : (n : ℕ) (bad : ℕ → Bool) → ((j : ℕ) → j < n → bad j ≡ false) → ltb (first_place n bad) n ≡ false
no_place_bad n bad h = le-ltb (first_place n bad) n (omega (arith, first_none n bad h))

number_right : (is should : ℕ) → is ≡ should → not (eqb is should) ≡ false
number_right is should e = not_from_true (eqb is should) (eq-eqb is should e)

is_place : (m x : ℕ) → x < 2 ^ m → no_place m x ≡ false
is_place m x l = not_from_true (ltb x (2 ^ m)) (lt-ltb x (2 ^ m) l)

-- a number of a code is not among those before it
not_before : (n : ℕ) (l : List ℕ) → Permutation n l → (j : ℕ) → j < n → among (take j l) (get_or l j 0) ≡ false
not_before n l p j lt =
    among_first n l p j (get_or l j 0) (p.below j lt) ∙ le-ltb (place_of l (get_or l j 0)) j (omega (arith, place_of_lem n l p j lt))

support_fresh :
    (m : ℕ) (s : Sizes) (code : List ℕ) → s.n + s.t ≤ 2 ^ m
    → (j : ℕ) → j < s.n → among (take j (support_of_seed m s code)) (get_or (support_of_seed m s code) j 0) ≡ false
unfolding support_of_seed
support_fresh m s code le j l =
    rw (take-take j s.n (code_list m code) (omega arith), get_or-take s.n (code_list m code) j 0 l)
    (not_before (2 ^ m) (code_list m code) (code_permutes m code) j (omega arith))

-- the ones of a vector that are parted
weight_parts :
    (n : ℕ) (u v w : Vector) → ((i : ℕ) → i < n → cond (w i) 1 0 ≡ cond (u i) 1 0 + cond (v i) 1 0) → weight n w ≡ weight n u + weight n v
unfolding weight
weight_parts zero u v w h = refl
weight_parts (suc n) u v w h = omega (arith, weight_parts n u v w (λ i l. h i (omega arith)), h n (omega arith))

module _ {A : Type 0} {m : ℕ} {f : Ops A} (k : Laws f) (pl : Places A m) (z : pl.at 0 ≡ f.zero) where
  -- zero has the place 0
  zero_place : pl.num f.zero ≡ 0
  zero_place = ap pl.num (sym z) ∙ pl.num_at 0 (omega (arith, pl.num_below f.zero))

  place_zero : (x : A) → pl.num x ≡ 0 → x ≡ f.zero
  place_zero x e = sym (pl.at_num x) ∙ (ap pl.at e ∙ z)

  module _ (s : Sizes) (code : List ℕ) (le : s.n + s.t ≤ 2 ^ m) where
    -- no entry of the support is a zero
    no_clash : (j : ℕ) → j < s.n → zero_at f pl (goppa_of f pl s code) (get_or (support_of_seed m s code) j 0) ≡ false
    no_clash j l =
        let x = value f pl (goppa_of f pl s code) (pl.at (get_or (support_of_seed m s code) j 0)) in
        ne_eqb (pl.num x) 0 (λ e. off k pl z s code le j l (place_zero x e))

    -- a zero stands behind the support in the code
    zero_stands :
        (x : ℕ) → x < 2 ^ m → value f pl (goppa_of f pl s code) (pl.at x) ≡ f.zero
        → (s.n ≤ place_of (code_list m code) x) × (place_of (code_list m code) x < s.n + s.t)
    zero_stands x l e =
        let found = (goppa_zeros k pl z s code le).only (pl.at x) e in
        let i = found.0 in
        let p = code_permutes m code in
        let few : i < s.t = omega (arith, found.1, zeros_length m s code le) in
        let there = zeros_at m s code le i few in
        let here : x ≡ get_or (code_list m code) (s.n + i) 0 =
        sym (pl.num_at x l) ∙ (ap pl.num (found.2 ∙ ap pl.at there) ∙ pl.num_at _ (p.below (s.n + i) (omega arith))) in
        let at : place_of (code_list m code) x ≡ s.n + i = ap (place_of (code_list m code)) here ∙ place_of_lem (2 ^ m) (code_list m code) p (s.n + i) (omega arith) in
        (omega arith, omega arith)

    -- and what stands there is one
    stands_zero :
        (x : ℕ) → x < 2 ^ m → s.n ≤ place_of (code_list m code) x → place_of (code_list m code) x < s.n + s.t
        → value f pl (goppa_of f pl s code) (pl.at x) ≡ f.zero
    stands_zero x l a b =
        let q = place_of (code_list m code) x in
        let few : q - s.n < s.t = omega arith in
        let here : get_or (zeros_of m s code) (q - s.n) 0 ≡ x =
        zeros_at m s code le (q - s.n) few
        ∙ (ap (λ i. get_or (code_list m code) i 0) (omega arith) ∙ at_place (2 ^ m) (code_list m code) (code_permutes m code) x l) in
        ap (λ i. value f pl (goppa_of f pl s code) (pl.at i)) (sym here)
        ∙ (goppa_zeros k pl z s code le).each (q - s.n) (omega (arith, zeros_length m s code le))

    -- g has t zeros
    zeros_weigh : weight (2 ^ m) (zero_at f pl (goppa_of f pl s code)) ≡ s.t
    zeros_weigh =
        let l = code_list m code in
        let p = code_permutes m code in
        omega (arith, weight_parts (2 ^ m) (among (take s.n l)) (zero_at f pl (goppa_of f pl s code)) (among (take (s.n + s.t) l)) part, weight_among (2 ^ m) l p s.n (omega arith), weight_among (2 ^ m) l p (s.n + s.t) le) where
          part :
              (x : ℕ) → x < 2 ^ m
              → cond (among (take (s.n + s.t) (code_list m code)) x) 1 0
              ≡ cond (among (take s.n (code_list m code)) x) 1 0 + cond (zero_at f pl (goppa_of f pl s code) x) 1 0
          part x lx =
              let l = code_list m code in
              let p = code_permutes m code in
              let q = place_of l x in
              let v = value f pl (goppa_of f pl s code) (pl.at x) in
              rw (among_first (2 ^ m) l p (s.n + s.t) x lx, among_first (2 ^ m) l p s.n x lx)
              (elim (cases_lt q s.n) [
                | inl a ↦
                    rw (lt-ltb q s.n a, lt-ltb q (s.n + s.t) (omega arith), ne_eqb (pl.num v) 0 (λ e. omega (arith, (zero_stands x lx (place_zero v e)).0)))
                | inr a ↦ elim (cases_lt q (s.n + s.t)) [
                  | inl b ↦ rw (le-ltb q s.n a, lt-ltb q (s.n + s.t) b, eq-eqb (pl.num v) 0 (ap pl.num (stands_zero x lx a b) ∙ zero_place))
                  | inr b ↦
                      rw (le-ltb q s.n a, le-ltb q (s.n + s.t) b, ne_eqb (pl.num v) 0 (λ e. omega (arith, (zero_stands x lx (place_zero v e)).1)))
                ]
              ])

    module _ (h : Lawful s) (mixing decoy : List ℕ) (a : length mixing ≡ 32) (b : length decoy ≡ 32) where
      -- HP of the written key is that of the seeds
      pub mixed_read : mixed_in f pl s (secret_key_of f pl s code mixing decoy) ≡ mixed_of f pl s code mixing
      mixed_read =
          let n = support_length m s code le in
          let t = goppa_length f pl s code in
          let M = mixed_of f pl s code mixing in
          rw (
            read_support s h (support_of_seed m s code) (goppa_of f pl s code) M mixing decoy n t a b,
            read_goppa s h (support_of_seed m s code) (goppa_of f pl s code) M mixing decoy n t a b f pl (goppa_top k pl z s code le),
            read_mixing s h (support_of_seed m s code) (goppa_of f pl s code) M mixing decoy n t a b,
          )

      pub front_read :
          (i j : ℕ) → i < s.rows → j < s.rows → matrix_in s (secret_key_of f pl s code mixing decoy) i j ≡ mixed_of f pl s code mixing i j
      front_read =
          read_matrix s h (support_of_seed m s code) (goppa_of f pl s code) (mixed_of f pl s code mixing) mixing decoy (support_length m s code le) (goppa_length f pl s code) a b

      -- each entry of the support is a place, and no earlier entry
      support_passes :
          (j : ℕ) → j < s.n
          → (no_place m (word (secret_key_of f pl s code mixing decoy) j)
          || among (take j (support_in s (secret_key_of f pl s code mixing decoy))) (word (secret_key_of f pl s code mixing decoy) j))
          ≡ false
      support_passes j l =
          let M = mixed_of f pl s code mixing in
          let n = support_length m s code le in
          let t = goppa_length f pl s code in
          rw (read_support s h (support_of_seed m s code) (goppa_of f pl s code) M mixing decoy n t a b, read_support_word s h (support_of_seed m s code) (goppa_of f pl s code) M mixing decoy n t a b j l)
          (or_from _ _ (is_place m (get_or (support_of_seed m s code) j 0) (support_below m s code le j l)) (support_fresh m s code le j l))

      coefficient_passes : (i : ℕ) → i < s.t → no_place m (word (secret_key_of f pl s code mixing decoy) (s.n + i)) ≡ false
      coefficient_passes i l =
          rw (read_coefficient s h (support_of_seed m s code) (goppa_of f pl s code) (mixed_of f pl s code mixing) mixing decoy (support_length m s code le) (goppa_length f pl s code) a b i l)
          (is_place m (get_or (goppa_of f pl s code) i 0) (goppa_placed f pl s code i))

      goppa_read : goppa_in f pl s (secret_key_of f pl s code mixing decoy) ≡ goppa_of f pl s code
      goppa_read =
          read_goppa s h (support_of_seed m s code) (goppa_of f pl s code) (mixed_of f pl s code mixing) mixing decoy (support_length m s code le) (goppa_length f pl s code) a b f pl (goppa_top k pl z s code le)

      clash_passes :
          (j : ℕ) → j < s.n
          → zero_at f pl (goppa_in f pl s (secret_key_of f pl s code mixing decoy)) (word (secret_key_of f pl s code mixing decoy) j) ≡ false
      clash_passes j l =
          rw (goppa_read, read_support_word s h (support_of_seed m s code) (goppa_of f pl s code) (mixed_of f pl s code mixing) mixing decoy (support_length m s code le) (goppa_length f pl s code) a b j l)
          (no_clash j l)

      zeros_pass : weight (2 ^ m) (zero_at f pl (goppa_in f pl s (secret_key_of f pl s code mixing decoy))) ≡ s.t
      zeros_pass = ap (λ (g : List ℕ). weight (2 ^ m) (zero_at f pl g)) goppa_read ∙ zeros_weigh

      matrix_passes :
          (i : ℕ) → i < s.rows
          → not (eqb (weight s.rows (λ j. matrix_in s (secret_key_of f pl s code mixing decoy) i j ⊕ mixed_in f pl s (secret_key_of f pl s code mixing decoy) i j)) 0)
          ≡ false
      matrix_passes i l =
          number_right _ 0
          (weight_none s.rows _
          (λ j lj. ap₂ (λ x y. x ⊕ y) (front_read i j l lj) (ap (λ (B : Matrix). B i j) mixed_read) ∙ xor_self (mixed_of f pl s code mixing i j)))

      rank_passes : usable f pl s code mixing ≡ true → rank_of s.rows (matrix_in s (secret_key_of f pl s code mixing decoy)) s.rows ≡ s.rows
      rank_passes u =
          rank_same s.rows s.rows (matrix_in s (secret_key_of f pl s code mixing decoy)) (mixed_of f pl s code mixing) (λ i j l q. sym (front_read i j l q))
          ∙ rank_full s.rows (mixed_of f pl s code mixing) u

      pub made_sound : usable f pl s code mixing ≡ true → Sound f pl s (secret_key_of f pl s code mixing decoy)
      made_sound u =
          none_answers (sound_rows f pl s (secret_key_of f pl s code mixing decoy)) (
            no_place_bad s.n _ support_passes,
            (
              no_place_bad s.t _ coefficient_passes,
              (
                no_place_bad s.n _ clash_passes,
                (
                  number_right _ s.t zeros_pass,
                  (no_place_bad s.rows _ matrix_passes, (number_right _ s.rows (rank_passes u), tt)),
                ),
              ),
            ),
          )
