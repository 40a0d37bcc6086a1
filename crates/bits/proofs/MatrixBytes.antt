-- The bytes of a matrix, row after row.
use Rattle.std.proofs.Common.{◌≡◌, ℕ, ◌+◌, ◌*◌, ◌/◌, ◌%◌, ◌<◌, List, length, sym, ap, ◌∙◌, inl, inr, mul-zero, arith}
use Rattle.std.proofs.lemmas.Nat.{div-add-mod', div-mul-add, mod-mul-add, mul-add-lt, div_below, mod_below}
use Rattle.std.proofs.lemmas.Bool.{cases_eq}
use Rattle.bits.specs.Vectors.{Matrix}
use Rattle.bits.specs.Packed.{vector, matrix, packed, Bytes}
use Rattle.bits.specs.Rows.{matrix_bytes}
use Rattle.bits.proofs.Packing.{packed_is, packed_same, packed_bytes, length_packed, vector_packed}

-- the bit of row i and column j lies at place i * (8 * w) + j
pub matrix_vector : (w : ℕ) (bs : List ℕ) (i j : ℕ) → matrix w bs i j ≡ vector bs (i * (8 * w) + j)
unfolding matrix vector
matrix_vector w bs i j =
    let d : (i * (8 * w) + j) / 8 ≡ i * w + j / 8 = omega arith in
    let m : (i * (8 * w) + j) % 8 ≡ j % 8 = omega arith in
    rw (d, m)

-- the row and the column of a place
row_not_empty : (r w b : ℕ) → b < 8 * (r * w) → 0 < 8 * w
row_not_empty r w b l =
    elim (cases_eq w 0) [
      | inl e ↦ let q : r * w ≡ 0 = rw e (mul-zero r) in absurd (omega arith)
      | inr d ↦ omega arith
    ]

row_below : (r w b : ℕ) → b < 8 * (r * w) → b / (8 * w) < r
row_below r w b l = div_below b (8 * w) r (row_not_empty r w b l) (omega arith)

column_below : (r w b : ℕ) → b < 8 * (r * w) → b % (8 * w) < 8 * w
column_below r w b l = mod_below b (8 * w) (row_not_empty r w b l)

pub matrix_bytes_is :
    (r w : ℕ) (A : Matrix) (bs : List ℕ) → length bs ≡ r * w → Bytes bs
    → ((i j : ℕ) → i < r → j < 8 * w → matrix w bs i j ≡ A i j) → bs ≡ matrix_bytes r w A
unfolding matrix_bytes
matrix_bytes_is r w A bs n small h =
    packed_is (r * w) (λ b. A (b / (8 * w)) (b % (8 * w))) bs n small
    (λ b l. ap (vector bs) (sym (div-add-mod' b (8 * w)))
    ∙ (sym (matrix_vector w bs (b / (8 * w)) (b % (8 * w))) ∙ h (b / (8 * w)) (b % (8 * w)) (row_below r w b l) (column_below r w b l)))

pub matrix_of_bytes : (r w : ℕ) (A : Matrix) (i j : ℕ) → i < r → j < 8 * w → matrix w (matrix_bytes r w A) i j ≡ A i j
unfolding matrix_bytes
matrix_of_bytes r w A i j l m =
    matrix_vector w (packed (r * w) (λ b. A (b / (8 * w)) (b % (8 * w)))) i j
    ∙ (vector_packed (r * w) (λ b. A (b / (8 * w)) (b % (8 * w))) (i * (8 * w) + j) (omega (arith, mul-add-lt i (8 * w) j r l m))
    ∙ rw (div-mul-add i (8 * w) j m, mod-mul-add i (8 * w) j m))

pub length_matrix_bytes : (r w : ℕ) (A : Matrix) → length (matrix_bytes r w A) ≡ r * w
unfolding matrix_bytes
length_matrix_bytes r w A = length_packed (r * w) (λ b. A (b / (8 * w)) (b % (8 * w)))

pub matrix_bytes_same :
    (r w : ℕ) (A B : Matrix) → ((i j : ℕ) → i < r → j < 8 * w → A i j ≡ B i j) → matrix_bytes r w A ≡ matrix_bytes r w B
unfolding matrix_bytes
matrix_bytes_same r w A B h =
    packed_same (r * w) (λ b. A (b / (8 * w)) (b % (8 * w))) (λ b. B (b / (8 * w)) (b % (8 * w)))
    (λ b l. h (b / (8 * w)) (b % (8 * w)) (row_below r w b l) (column_below r w b l))

pub matrix_bytes_bytes : (r w : ℕ) (A : Matrix) → Bytes (matrix_bytes r w A)
unfolding matrix_bytes
matrix_bytes_bytes r w A = packed_bytes (r * w) (λ b. A (b / (8 * w)) (b % (8 * w)))
