-- Bits that are added in a row and a column, and columns of such bits.
use Rattle.std.proofs.Common.{◌≡◌, ℕ, ◌+◌, ◌-◌, ◌*◌, ◌/◌, ◌%◌, ◌<◌, ◌≤◌, Bool, true, false, ◌&&◌, eqb, ltb, leb, List, [], ◌++◌, length, get_or, take, drop, sym, ap, ◌∙◌, inl, inr, arith}
use borrow.Rule.Slice.PartMut.{put_mid}
use Rattle.std.proofs.lemmas.Nat.{div_below, mod_below}
use Rattle.std.proofs.lemmas.List.{get_or_append_left, get_or-append_right, get_or-take, get_or-drop, drop_all, length-drop, length-take-le, append-nil, take_all}
use Rattle.std.proofs.lemmas.Bool.{cases_eq, cases_lt, eq-eqb, ne_eqb, lt-ltb, le-ltb, le-leb, lt-leb}
use Rattle.bits.specs.Vectors.{◌⊕◌, Vector, Matrix}
use Rattle.bits.specs.Packed.{bit_of, matrix, BitAdded}
use Rattle.bits.proofs.Sums.{xor_zero, and_no}
use Rattle.bits.proofs.Places.{vector_in}
use Rattle.matrices.specs.Columns.{EntryAdded, ColumnAdded}
use Rattle.matrices.proofs.Bytes.{row_before}

module _ (w row col k : ℕ) (b : Bool) (xs ys : List ℕ) (lc : col < 8 * w) (within : row * w + w ≤ length xs) (lk : k ≡ length xs - row * w) (ly : length ys ≡ k) (h : BitAdded col b (take k (drop (row * w) xs)) ys) where
  abbrev pub zs : List ℕ
  zs = put_mid (row * w) k xs ys

  below : (p : ℕ) → p < row * w → get_or zs p 0 ≡ get_or xs p 0
  below p l =
      let n : length (take (row * w) xs) ≡ row * w = length-take-le (row * w) xs (omega arith) in
      get_or_append_left (take (row * w) xs) (ys ++ drop k (drop (row * w) xs)) 0 p (omega arith) ∙ get_or-take (row * w) xs p 0 l

  past : (p : ℕ) → row * w ≤ p → get_or zs p 0 ≡ get_or ys (p - row * w) 0
  past p l =
      let none : drop k (drop (row * w) xs) ≡ [] = drop_all k (drop (row * w) xs) (simp length-drop (omega arith)) in
      get_or-append_right (take (row * w) xs) (ys ++ drop k (drop (row * w) xs)) (row * w) p 0 (length-take-le (row * w) xs (omega arith)) l
      ∙ rw (none, append-nil ys)

  was : (q : ℕ) → get_or (take k (drop (row * w) xs)) q 0 ≡ get_or xs (row * w + q) 0
  was q = rw (take_all k (drop (row * w) xs) (simp length-drop (omega arith))) (get_or-drop (row * w) xs q 0)

  above : (i j : ℕ) → j < 8 * w → row * w ≤ i * w + j / 8 → matrix w zs i j ≡ (matrix w xs i j ⊕ (eqb (8 * (i * w + j / 8 - row * w) + j % 8) col && b))
  unfolding matrix
  above i j l m =
      let q = i * w + j / 8 - row * w in
      let r : j % 8 < 8 = mod_below j 8 (omega arith) in
      let back : row * w + q ≡ i * w + j / 8 = omega arith in
      rw (past (i * w + j / 8) m)
      (sym (vector_in ys q (j % 8) r)
      ∙ (h (8 * q + j % 8)
      ∙ ap (λ x. x ⊕ (eqb (8 * q + j % 8) col && b)) (vector_in (take k (drop (row * w) xs)) q (j % 8) r ∙ ap (λ x. bit_of x (j % 8)) (was q ∙ ap (λ p. get_or xs p 0) back))))

  pub entry_added : EntryAdded (8 * w) row col b (matrix w xs) (matrix w zs)
  unfolding matrix
  entry_added i j l =
      let d : j / 8 < w = div_below j 8 w (omega arith) (omega arith) in
      elim (cases_eq i row) [
        | inl e ↦
            let q : i * w + j / 8 - row * w ≡ j / 8 = omega (arith, ap (λ x. x * w) e) in
            let s : 8 * (j / 8) + j % 8 ≡ j = omega arith in
            above i j l (omega (arith, ap (λ x. x * w) e)) ∙ rw (q, s, eq-eqb i row e)
        | inr ne ↦ elim (cases_lt i row) [
          | inl m ↦
              rw (below (i * w + j / 8) (omega (arith, row_before w i row m)), ne_eqb i row ne) (sym (xor_zero (matrix w xs i j)))
          | inr m ↦
              let far : row * w + w ≤ i * w = row_before w row i (omega arith) in
              let off : eqb (8 * (i * w + j / 8 - row * w) + j % 8) col ≡ false = ne_eqb _ col (λ e. omega arith) in
              above i j l (omega arith) ∙ rw (off, ne_eqb i row ne)
        ]
      ]

-- whether i lies from f to e
in_yes : (f e i : ℕ) → f ≤ i → i < e → (leb f i && ltb i e) ≡ true
in_yes f e i l m = rw (le-leb f i l, lt-ltb i e m)

in_before : (f e i : ℕ) → i < f → (leb f i && ltb i e) ≡ false
in_before f e i l = rw (lt-leb f i l)

in_after : (f e i : ℕ) → e ≤ i → (leb f i && ltb i e) ≡ false
in_after f e i l = rw (le-ltb i e l) (and_no (leb f i))

pub column_none : (f n col : ℕ) (v : Vector) (B : Matrix) → ColumnAdded f f n col v B B
column_none f n col v B i j l = elim (cases_lt i f) [
  | inl m ↦ rw (in_before f f i m) (sym (xor_zero (B i j)))
  | inr m ↦ rw (in_after f f i m) (sym (xor_zero (B i j)))
]

pub column_one : (to n col : ℕ) (b : Bool) (B C : Matrix) → EntryAdded n to col b B C → ColumnAdded to (to + 1) n col (λ _. b) B C
column_one to n col b B C h i j l = h i j l ∙ ap (λ t. B i j ⊕ (t && (eqb j col && b))) same where
  same : eqb i to ≡ (leb to i && ltb i (to + 1))
  same = elim (cases_eq i to) [
    | inl e ↦ eq-eqb i to e ∙ sym (in_yes to (to + 1) i (omega arith) (omega arith))
    | inr d ↦ ne_eqb i to d ∙ sym (elim (cases_lt i to) [ inl m ↦ in_before to (to + 1) i m | inr m ↦ in_after to (to + 1) i (omega arith) ])
  ]

-- one stretch of a column after another
pub column_join :
    (f s e n col : ℕ) (v u : Vector) (B C D : Matrix) → f ≤ s → s ≤ e → ((i : ℕ) → s ≤ i → i < e → u (i - s) ≡ v (i - f))
    → ColumnAdded f s n col v B C → ColumnAdded s e n col u C D → ColumnAdded f e n col v B D
column_join f s e n col v u B C D lf le same p q i j l =
    q i j l ∙ (ap (λ x. x ⊕ ((leb s i && ltb i e) && (eqb j col && u (i - s)))) (p i j l) ∙ sums) where
      x : Bool
      x = eqb j col

      sums : ((B i j ⊕ ((leb f i && ltb i s) && (x && v (i - f)))) ⊕ ((leb s i && ltb i e) && (x && u (i - s)))) ≡ (B i j ⊕ ((leb f i && ltb i e) && (x && v (i - f))))
      sums = elim (cases_lt i f) [
        | inl a ↦ rw (in_before f s i a, in_before s e i (omega arith), in_before f e i a) (xor_zero (B i j ⊕ false))
        | inr a ↦ elim (cases_lt i s) [
          | inl b ↦ rw (in_yes f s i a b, in_before s e i b, in_yes f e i a (omega arith)) (xor_zero (B i j ⊕ (x && v (i - f))))
          | inr b ↦ elim (cases_lt i e) [
            | inl c ↦ rw (in_after f s i b, in_yes s e i b c, in_yes f e i a c, same i b c, xor_zero (B i j))
            | inr c ↦ rw (in_after f s i b, in_after s e i c, in_after f e i c) (xor_zero (B i j ⊕ false))
          ]
        ]
      ]

-- only the bits of the stretch count
pub column_same :
    (f e n col : ℕ) (v u : Vector) (B C : Matrix) → ((i : ℕ) → f ≤ i → i < e → v (i - f) ≡ u (i - f))
    → ColumnAdded f e n col v B C → ColumnAdded f e n col u B C
column_same f e n col v u B C same h i j l = h i j l ∙ ap (λ x. B i j ⊕ x) (elim (cases_lt i f) [
  | inl a ↦ rw (in_before f e i a)
  | inr a ↦ elim (cases_lt i e) [
    | inl b ↦ ap (λ x. (leb f i && ltb i e) && (eqb j col && x)) (same i a b)
    | inr b ↦ rw (in_after f e i b)
  ]
])
