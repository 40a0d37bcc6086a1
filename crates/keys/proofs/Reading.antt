-- What is read of a written key is what was written.
use Rattle.std.proofs.Common.{◌≡◌, ℕ, ◌+◌, ◌*◌, ◌/◌, ◌%◌, ◌<◌, List, [], ◌∷◌, ◌++◌, length, get_or, take, drop, sym, refl, ap, ◌∙◌, ap₂, arith}
use Rattle.std.proofs.lemmas.Nat.{mul-add-lt, div_below}
use Rattle.std.proofs.lemmas.List.FromFn.{fill_by_all}
use Rattle.std.proofs.lemmas.List.{length-append, length-take-le, get_or_append_left, get_or-append_right, get_or-take, take_all, take_at, take_more, drop_at, drop-drop}
use Rattle.levels.specs.declared.Sizes.{Sizes}
use Rattle.levels.specs.Table.{Lawful}
use Rattle.algebra.specs.Field.{Ops, Places}
use Rattle.bits.specs.Vectors.{Matrix}
use Rattle.bits.specs.Packed.{bit_of, matrix}
use Rattle.bits.specs.Words.{word, word_bytes}
use Rattle.bits.specs.Rows.{matrix_bytes}
use Rattle.bits.proofs.Words.{word_back}
use Rattle.bits.proofs.MatrixBytes.{matrix_of_bytes, length_matrix_bytes}
use Rattle.keys.specs.Secret.{written, matrix_from, mixing_from, decoy_from, support_in, goppa_in, matrix_in, mixing_in, decoy_in}

length_words : (xs : List ℕ) → length (word_bytes xs) ≡ 2 * length xs
unfolding word_bytes
length_words [] = refl
length_words (x ∷ xs) = omega (arith, length_words xs)

-- the numbers at the front
words_front : (xs rest : List ℕ) (j : ℕ) → j < length xs → word (word_bytes xs ++ rest) j ≡ get_or xs j 0
words_front xs rest j l =
    let n = length_words xs in
    rw (get_or_append_left (word_bytes xs) rest 0 (2 * j) (omega arith), get_or_append_left (word_bytes xs) rest 0 (2 * j + 1) (omega arith))
    (word_back xs j)

-- and after the front
words_after : (xs rest : List ℕ) (n i : ℕ) → length xs ≡ n → word (word_bytes xs ++ rest) (n + i) ≡ word rest i
words_after xs rest n i e =
    let l : length (word_bytes xs) ≡ 2 * n = length_words xs ∙ omega arith in
    let a : get_or (word_bytes xs ++ rest) (2 * (n + i)) 0 ≡ get_or rest (2 * i) 0 =
    get_or-append_right (word_bytes xs) rest (2 * n) (2 * (n + i)) 0 l (omega arith) ∙ ap (λ q. get_or rest q 0) (omega arith) in
    let b : get_or (word_bytes xs ++ rest) (2 * (n + i) + 1) 0 ≡ get_or rest (2 * i + 1) 0 =
    get_or-append_right (word_bytes xs) rest (2 * n) (2 * (n + i) + 1) 0 l (omega arith) ∙ ap (λ q. get_or rest q 0) (omega arith) in
    ap₂ (λ x y. 256 * x + y) a b

-- a matrix at the front
matrix_front :
    (r w : ℕ) (bs rest : List ℕ) (i j : ℕ) → length bs ≡ r * w → i < r → j < 8 * w → matrix w (bs ++ rest) i j ≡ matrix w bs i j
unfolding matrix
matrix_front r w bs rest i j n l m =
    let q : j / 8 < w = div_below j 8 w (omega arith) (omega arith) in
    ap (λ x. bit_of x (j % 8)) (get_or_append_left bs rest 0 (i * w + j / 8) (omega (arith, mul-add-lt i w (j / 8) r l q)))

module _
    (s : Sizes) (h : Lawful s) (support g : List ℕ) (M : Matrix) (mixing decoy : List ℕ) (n : length support ≡ s.n) (t : length g ≡ s.t + 1)
    (a : length mixing ≡ 32) (b : length decoy ≡ 32) where
  coefficients_long : length (take s.t g) ≡ s.t
  coefficients_long = length-take-le s.t g (omega arith)

  pub read_support_word : (j : ℕ) → j < s.n → word (written s support g M mixing decoy) j ≡ get_or support j 0
  unfolding written
  read_support_word j l = words_front support _ j (omega arith)

  pub read_coefficient : (i : ℕ) → i < s.t → word (written s support g M mixing decoy) (s.n + i) ≡ get_or g i 0
  unfolding written
  read_coefficient i l =
      words_after support _ s.n i n ∙ (words_front (take s.t g) _ i (omega (arith, coefficients_long)) ∙ get_or-take s.t g i 0 l)

  pub read_support : support_in s (written s support g M mixing decoy) ≡ support
  unfolding support_in
  read_support = sym (fill_by_all (word (written s support g M mixing decoy)) support s.n 0 n (λ j l. sym (read_support_word j l)))

  pub read_goppa :
      {A : Type 0} {m : ℕ} (f : Ops A) (pl : Places A m) → get_or g s.t 0 ≡ pl.num f.one
      → goppa_in f pl s (written s support g M mixing decoy) ≡ g
  unfolding goppa_in
  read_goppa f pl top =
      let key = written s support g M mixing decoy in
      ap₂ (λ (x : List ℕ) y. x ++ (y ∷ []))
      (sym (fill_by_all (λ i. word key (s.n + i)) (take s.t g) s.t 0 coefficients_long (λ i l. get_or-take s.t g i 0 l ∙ sym (read_coefficient i l)))) (sym top)
      ∙ (sym (take_more g s.t 0 (omega arith)) ∙ take_all (s.t + 1) g (omega arith))

  after_words : drop (matrix_from s) (written s support g M mixing decoy) ≡ matrix_bytes s.rows s.body M ++ (mixing ++ decoy)
  unfolding written
  after_words =
      let rest = matrix_bytes s.rows s.body M ++ (mixing ++ decoy) in
      let x : length (word_bytes support) ≡ 2 * s.n = length_words support ∙ ap (λ q. 2 * q) n in
      let y : length (word_bytes (take s.t g)) ≡ 2 * s.t = length_words (take s.t g) ∙ ap (λ q. 2 * q) coefficients_long in
      sym (drop-drop (2 * s.t) (2 * s.n) (word_bytes support ++ (word_bytes (take s.t g) ++ rest)))
      ∙ (ap (drop (2 * s.t)) (drop_at (word_bytes support) (word_bytes (take s.t g) ++ rest) (2 * s.n) x)
      ∙ drop_at (word_bytes (take s.t g)) rest (2 * s.t) y)

  after_matrix : drop (mixing_from s) (written s support g M mixing decoy) ≡ mixing ++ decoy
  after_matrix =
      sym (drop-drop (s.rows * s.body) (matrix_from s) (written s support g M mixing decoy))
      ∙ (ap (drop (s.rows * s.body)) after_words
      ∙ drop_at (matrix_bytes s.rows s.body M) (mixing ++ decoy) (s.rows * s.body) (length_matrix_bytes s.rows s.body M))

  after_mixing : drop (decoy_from s) (written s support g M mixing decoy) ≡ decoy
  after_mixing =
      sym (drop-drop 32 (mixing_from s) (written s support g M mixing decoy)) ∙ (ap (drop 32) after_matrix ∙ drop_at mixing decoy 32 a)

  pub read_matrix : (i j : ℕ) → i < s.rows → j < s.rows → matrix_in s (written s support g M mixing decoy) i j ≡ M i j
  unfolding matrix_in
  read_matrix i j l m =
      let w : j < 8 * s.body = omega (arith, h.body) in
      let bs = matrix_bytes s.rows s.body M in
      ap (λ (xs : List ℕ). matrix s.body xs i j) after_words
      ∙ (matrix_front s.rows s.body bs (mixing ++ decoy) i j (length_matrix_bytes s.rows s.body M) l w
      ∙ matrix_of_bytes s.rows s.body M i j l w)

  pub read_mixing : mixing_in s (written s support g M mixing decoy) ≡ mixing
  unfolding mixing_in
  read_mixing = ap (take 32) after_matrix ∙ take_at mixing decoy 32 a

  pub read_decoy : decoy_in s (written s support g M mixing decoy) ≡ decoy
  unfolding decoy_in
  read_decoy = ap (take 32) after_mixing ∙ take_all 32 decoy (omega arith)

  pub length_written : length (written s support g M mixing decoy) ≡ s.secret_key
  unfolding written
  length_written =
      simp length-append
      (omega (arith, length_words support, length_words (take s.t g), coefficients_long, length_matrix_bytes s.rows s.body M, h.secret))
