-- What [I | M] with the kernel of a matrix says of it.
use Rattle.std.proofs.Common.{◌≡◌, ℕ, ◌+◌, ◌-◌, ◌<◌, ◌≤◌, false, eqb, sym, refl, ◌∙◌, inl, inr, arith}
use Rattle.std.proofs.lemmas.Bool.{cases_lt, lt-ltb, le-ltb, ne_eqb, both_ways}
use Rattle.bits.specs.Vectors.{◌⊕◌, Vector, Matrix, dot, times, systematic}
use Rattle.bits.specs.Kernels.{InKernel, SameKernel, Same, UnitColumns, Independent, Dependent, Reduced, Back, Echelon}
use Rattle.bits.proofs.Sums.{xor_self, xor_same, dot_right, dot_same, dot_unit, dot_none}
use Rattle.bits.proofs.Selections.{padded, dot_padded, dot_front, one_at, dot_one_at, with_one, with_one_at, with_one_above, dot_with_one}
use Rattle.bits.proofs.Rows.{same_keeps, keeps_trans}

-- a row of B selects from a vector that is padded with zeros
unit_padded : (r n : ℕ) (B : Matrix) → r ≤ n → UnitColumns r r B → (z : Vector) (i : ℕ) → i < r → dot n (B i) (padded r z) ≡ z i
unit_padded r n B le u z i l = dot_padded r n (B i) z le ∙ dot_unit r i (B i) z l (λ j m. u i j l m)

pub product_back : (r n : ℕ) (A B : Matrix) → Reduced r n A B → (x : Vector) (i : ℕ) → i < r → times r A (times n B x) i ≡ times n A x i
product_back r n A B h x i l =
    let y : Vector = padded r (times n B x) in
    let z : Vector = λ j. y j ⊕ x j in
    let in_b : InKernel r n B z =
    λ k m. dot_right n (B k) y x ∙ rw (unit_padded r n B h.0 h.1.1 (times n B x) k m) (xor_self (times n B x k)) in
    let s : (dot n (A i) y ⊕ dot n (A i) x) ≡ false = sym (dot_right n (A i) y x) ∙ (h.1.0 z).1 in_b i l in
    sym (dot_padded r n (A i) (times n B x) h.0) ∙ xor_same (dot n (A i) y) (dot n (A i) x) s

pub column_back : (r n : ℕ) (A B : Matrix) → Reduced r n A B → Back r n A B
column_back r n A B h i j l m =
    dot_same r (A i) (A i) (λ k. B k j) (times n B (one_at j)) (λ k p. refl) (λ k p. sym (dot_one_at n j (B k) m))
    ∙ (product_back r n A B h (one_at j) i l ∙ dot_one_at n j (A i) m)

pub injective : (r n : ℕ) (A B : Matrix) → Reduced r n A B → Independent r A
injective r n A B h z in_a k l =
    let p : InKernel r n A (padded r z) = λ i m. dot_padded r n (A i) z h.0 ∙ in_a i m in
    sym (unit_padded r n B h.0 h.1.1 z k l) ∙ (h.1.0 (padded r z)).0 p k l

-- what an injective matrix takes to the same is the same
pub injective_same : (r : ℕ) (A : Matrix) → Independent r A → (y z : Vector) → ((i : ℕ) → i < r → dot r (A i) y ≡ dot r (A i) z) → (k : ℕ) → k < r → y k ≡ z k
injective_same r A ind y z h k l =
    xor_same (y k) (z k) (ind (λ j. y j ⊕ z j) (λ i m. dot_right r (A i) y z ∙ rw (h i m) (xor_self (dot r (A i) z))) k l)

pub only_one : (r n : ℕ) (A B C : Matrix) → Reduced r n A B → Back r n A C → Same r n B C
only_one r n A B C h g i j l m =
    injective_same r A (injective r n A B h) (λ k. C k j) (λ k. B k j) (λ k p. g k j p m ∙ sym (column_back r n A B h k j p m)) i l

pub only_body :
    (r n : ℕ) (A B : Matrix) → Reduced r n A B → (b x : Vector)
    → ((i : ℕ) → i < r → times r A b i ≡ times n A x i) → (i : ℕ) → i < r → b i ≡ times n B x i
only_body r n A B h b x e =
    injective_same r A (injective r n A B h) b (times n B x) (λ i l. e i l ∙ sym (product_back r n A B h x i l))

pub not_both : (r : ℕ) (A : Matrix) → Dependent r A → Independent r A → ⊥
not_both r A d ind = both_ways (d.0 d.1.1.0) (ind d.0 d.1.0 d.1.1.0 d.1.1.1.0) d.1.1.1.1

-- the entries above row c in a column without a pivot, then a one, are in the kernel
pub no_pivot :
    (r n c : ℕ) (A B : Matrix) → r ≤ n → c < r → SameKernel r n A B → UnitColumns r c B
    → ((i : ℕ) → c ≤ i → i < r → B i c ≡ false) → Dependent r A
no_pivot r n c A B le lc s u none = (w, (λ i l. sym (dot_front r n (A i) w le above) ∙ (s w).1 in_b i l, (c, (lc, with_one_at c x)))) where
  x : Vector
  x j = B j c

  w : Vector
  w = with_one c x

  above : (j : ℕ) → r ≤ j → j < n → w j ≡ false
  above j l m = with_one_above c x j (omega arith)

  both : (i : ℕ) → i < r → dot c (B i) x ≡ B i c
  both i l =
      elim (cases_lt i c) [
        | inl m ↦ dot_unit c i (B i) x m (λ j p. u i j l p)
        | inr m ↦ dot_none c (B i) x (λ j p. rw (u i j l p, ne_eqb i j (omega arith))) ∙ sym (none i m l)
      ]

  in_b : InKernel r n B w
  in_b i l = dot_with_one n c (B i) x (omega arith) ∙ rw (both i l) (xor_self (B i c))

-- ---- [I | M]

pub front_column : (r : ℕ) (M : Matrix) (i j : ℕ) → j < r → systematic r M i j ≡ eqb i j
unfolding systematic
front_column r M i j l = rw (lt-ltb j r l)

pub back_column : (r : ℕ) (M : Matrix) (i j : ℕ) → systematic r M i (r + j) ≡ M i j
unfolding systematic
back_column r M i j = let e : r + j - r ≡ j = omega arith in rw (le-ltb (r + j) r (omega arith), e)

-- B is [I | M] if its last columns are those of M
systematic_same : (r k : ℕ) (B M : Matrix) → UnitColumns r r B → ((i j : ℕ) → i < r → j < k → M i j ≡ B i (r + j)) → Same r (r + k) B (systematic r M)
systematic_same r k B M u e i j l m =
    elim (cases_lt j r) [
      | inl p ↦ front_column r M i j p ∙ sym (u i j l p)
      | inr p ↦
          let s : r + (j - r) ≡ j = omega arith in
          let t : systematic r M i (r + (j - r)) ≡ B i (r + (j - r)) = back_column r M i (j - r) ∙ e i (j - r) l (omega arith) in
          rw s at t
    ]

pub echelon_is :
    (r k : ℕ) (A B M : Matrix) → Reduced r (r + k) A B → ((i j : ℕ) → i < r → j < k → M i j ≡ B i (r + j)) → Echelon r k A M
echelon_is r k A B M h e =
    record {
      kernel = h'.1.0;
      injective = injective r (r + k) A C h';
      back = column_back r (r + k) A C h';
      products = product_back r (r + k) A C h';
      bodies = only_body r (r + k) A C h';
      only =
          λ N g i j l m. sym (back_column r N i j)
          ∙ (only_one r (r + k) A C (systematic r N) h' g i (r + j) l (omega arith) ∙ back_column r M i j);
    } where
      C : Matrix
      C = systematic r M

      h' : Reduced r (r + k) A C
      h' = (
        h.0,
        (keeps_trans r (r + k) A B C h.1.0 (same_keeps r (r + k) B C (systematic_same r k B M h.1.1 e)), λ i j l m. front_column r M i j m),
      )
