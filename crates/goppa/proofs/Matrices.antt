-- Columns as bits.
use Rattle.std.proofs.Common.{◌≡◌, ℕ, ◌+◌, ◌-◌, ◌*◌, ◌/◌, ◌%◌, ◌<◌, ◌≤◌, Bool, true, false, ◌&&◌, ltb, List, get_or, replicate, sym, refl, ap, ◌∙◌, inl, inr, mul_comm, arith}
use Rattle.std.proofs.lemmas.Nat.{div_below}
use Rattle.std.proofs.lemmas.List.{get_or-replicate, get_or_past, length-replicate}
use Rattle.std.proofs.lemmas.Bool.{cases_lt, cases_eq, eq-eqb, ne_eqb, lt-ltb, le-ltb, le-leb}
use Rattle.algebra.specs.Field.{Ops, Places}
use Rattle.polys.specs.Coefs.{coefs}
use Rattle.bits.specs.Vectors.{Vector, Matrix}
use Rattle.bits.specs.Packed.{matrix}
use Rattle.bits.proofs.Sums.{xor_zero}
use Rattle.bits.proofs.Places.{no_bit}
use Rattle.matrices.specs.Columns.{number_bit, bits_of, ColumnAdded}
use Rattle.goppa.specs.Columns.{Column}
use Rattle.goppa.specs.Matrix.{column_place, column_bits}

module _ {A : Type 0} {m : ℕ} (f : Ops A) (pl : Places A m) (t : ℕ) (g q : List ℕ) (x : ℕ) (h : Column f pl t g (pl.at x) q) where
  pub place : (r : ℕ) → r < t → get_or q r 0 ≡ column_place f pl t g x r
  unfolding coefs column_place
  place r l = sym (pl.num_at (get_or q r 0) (h.written r)) ∙ ap pl.num (h.product r l)

  pub column_bits_lem : 0 < m → (i : ℕ) → i < m * t → bits_of m q i ≡ column_bits f pl t g x i
  unfolding bits_of column_bits
  column_bits_lem p i l = ap (λ y. number_bit y (i % m)) (place (i / m) (div_below i m t p (omega (arith, mul_comm m t))))

-- an answer that means P, or else Q, means P where Q can't be
pub sure : (o : Bool) (P Q : Type 0) → elim o as (λ _. Type 0) [ true ↦ P | false ↦ Q ] → (Q → ⊥) → P
sure true P Q p n = p
sure false P Q q n = absurd (n q)

-- the first c columns of B are those of M, and the others are zero
pub WrittenColumns : ℕ → ℕ → ℕ → Matrix → Matrix → Type 0
WrittenColumns r n c M B = (i j : ℕ) → i < r → j < n → B i j ≡ (ltb j c && M i j)

pub none_written : (r n w q : ℕ) (M : Matrix) (xs : List ℕ) → xs ≡ replicate q 0 → WrittenColumns r n 0 M (matrix w xs)
unfolding WrittenColumns matrix
none_written r n w q M xs e i j l m = rw (e, le-ltb j 0 (omega arith)) (elim (cases_lt (i * w + j / 8) q) [
  | inl a ↦ rw (get_or-replicate {A = ℕ} q (i * w + j / 8) 0 0 a) (no_bit (j % 8))
  | inr a ↦ rw (get_or_past {X = ℕ} (replicate q 0) (i * w + j / 8) 0 (simp length-replicate a)) (no_bit (j % 8))
])

pub more_written :
    (r n c : ℕ) (M B C : Matrix) (v : Vector) → ((i : ℕ) → i < r → v i ≡ M i c) → ColumnAdded 0 r n c v B C → WrittenColumns r n c M B
    → WrittenColumns r n (c + 1) M C
unfolding WrittenColumns
more_written r n c M B C v same h before i j l m =
    let z : i - 0 ≡ i = omega arith in
    h i j m ∙ rw (le-leb 0 i (omega arith), lt-ltb i r l, z, before i j l m) (elim (cases_eq j c) [
      | inl e ↦ rw (e, le-ltb c c (omega arith), eq-eqb c c refl, lt-ltb c (c + 1) (omega arith)) (same i l)
      | inr d ↦ rw (ne_eqb j c d) (xor_zero (ltb j c && M i j) ∙ ap (λ t. t && M i j) (turns d))
    ]) where
      turns : (j ≡ c → ⊥) → ltb j c ≡ ltb j (c + 1)
      turns d = elim (cases_lt j c) [
        | inl a ↦ lt-ltb j c a ∙ sym (lt-ltb j (c + 1) (omega arith))
        | inr a ↦ le-ltb j c a ∙ sym (le-ltb j (c + 1) (omega arith))
      ]

pub all_written : (r n c : ℕ) (M B : Matrix) → n ≤ c → WrittenColumns r n c M B → (i j : ℕ) → i < r → j < n → B i j ≡ M i j
unfolding WrittenColumns
all_written r n c M B le h i j l m = h i j l m ∙ rw (lt-ltb j c (omega arith))
