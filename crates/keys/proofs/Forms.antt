-- HP in memory, and the reduced row echelon form of it as it is written.
use Rattle.std.proofs.Common.{◌≡◌, ℕ, ◌+◌, ◌-◌, ◌*◌, ◌<◌, Bool, true, false, List, ◌++◌, take, Ok, Err, Result, is_ok, MatchBool, MatchResult, sym, refl, ap, ◌∙◌, arith}
use Rattle.std.proofs.lemmas.Bool.{both_ways}
use Rattle.levels.specs.declared.Sizes.{Sizes}
use Rattle.levels.specs.Table.{Lawful}
use Rattle.bits.specs.Vectors.{Matrix, systematic}
use Rattle.bits.specs.Packed.{matrix}
use Rattle.bits.specs.Words.{word_bytes}
use Rattle.bits.specs.Kernels.{Same, Echelon, independent}
use Rattle.bits.specs.Reduced.{reduced_of}
use Rattle.bits.proofs.Decision.{independent_same}
use Rattle.bits.proofs.Existence.{reduced_exists}
use Rattle.bits.proofs.MatrixBytes.{matrix_of_bytes, matrix_bytes_same}
use Rattle.bits.proofs.ReducedOf.{reduced_same}
use Rattle.bits.proofs.Reduction.{echelon_is, front_column, back_column}
use Rattle.algebra.specs.Field.{Ops, Places}
use Rattle.shuffles.specs.Orders.{order}
use Rattle.goppa.specs.Matrix.{mixed_matrix}
use Rattle.sealing.specs.Calls.{public_matrix}
use Rattle.keys.specs.Secret.{written, mixed_by, public_key_of}

when_ok : {E : Type 0} → (o : Result (Unit {0}) E) (P Q : Type 0) → MatchResult o (λ _. P) (λ _. Q) → is_ok o ≡ true → P
when_ok (Ok x) P Q p e = p
when_ok (Err x) P Q q e = absurd (both_ways false refl e)

when_true : (b : Bool) (P Q : Type 0) → MatchBool b P Q → b ≡ true → P
when_true true P Q p e = p
when_true false P Q q e = absurd (both_ways false refl e)

-- what the elimination of a matrix with independent columns in front writes
pub written_form :
    {E : Type 0} → (s : Sizes) → Lawful s → (o : Result (Unit {0}) E) (hp out : List ℕ)
    → MatchResult o (λ _. Same (8 * s.body) (8 * (s.vector - s.body)) (reduced_of (8 * s.body) (matrix (s.body + (s.vector - s.body)) hp)) (matrix (s.vector - s.body) out)) (λ _. Unit {0})
    → is_ok o ≡ independent (8 * s.body) (matrix (s.body + (s.vector - s.body)) hp) → independent s.rows (matrix s.vector hp) ≡ true
    → (i j : ℕ) → i < s.rows → j < 8 * (s.vector - s.body) → matrix (s.vector - s.body) out i j ≡ reduced_of s.rows (matrix s.vector hp) i j
written_form s h o hp out w d i =
    let r : 8 * s.body ≡ s.rows = sym h.body in
    let v : s.body + (s.vector - s.body) ≡ s.vector = omega (arith, h.shorter) in
    let w' = rw (r, v) at w in
    let d' = rw (r, v) at d in
    when_ok o _ (Unit {0}) w' (d' ∙ i)

-- the same, where the elimination answers yes or no
pub written_form_if :
    (s : Sizes) → Lawful s → (b : Bool) (hp out : List ℕ)
    → MatchBool b (Same (8 * s.body) (8 * (s.vector - s.body)) (reduced_of (8 * s.body) (matrix (s.body + (s.vector - s.body)) hp)) (matrix (s.vector - s.body) out)) (Unit {0})
    → b ≡ independent (8 * s.body) (matrix (s.body + (s.vector - s.body)) hp) → independent s.rows (matrix s.vector hp) ≡ true
    → (i j : ℕ) → i < s.rows → j < 8 * (s.vector - s.body) → matrix (s.vector - s.body) out i j ≡ reduced_of s.rows (matrix s.vector hp) i j
written_form_if s h b hp out w d i =
    let r : 8 * s.body ≡ s.rows = sym h.body in
    let v : s.body + (s.vector - s.body) ≡ s.vector = omega (arith, h.shorter) in
    let w' = rw (r, v) at w in
    let d' = rw (r, v) at d in
    when_true b _ (Unit {0}) w' (d' ∙ i)

-- HP, written column by column
pub mixed_same :
    {A : Type 0} {m : ℕ} (f : Ops A) (pl : Places A m) (s : Sizes) → Lawful s → (bits t : ℕ) (B : Matrix) (support g l mixing : List ℕ)
    → bits ≡ s.m → t ≡ s.t → l ≡ order s.n mixing
    → ((i j : ℕ) → i < bits * t → j < 8 * s.vector → B i j ≡ mixed_matrix f pl t g support l i j)
    → (i j : ℕ) → i < s.rows → j < s.n → B i j ≡ mixed_by f pl s support g mixing i j
mixed_same f pl s h bits t B support g l mixing eb et el is i j p q =
    let r : bits * t ≡ s.rows = rw (eb, et) (sym h.rows) in
    is i j (omega arith) (omega (arith, h.vector)) ∙ rw (et, el)

-- HP stands in memory
module _ (s : Sizes) (h : Lawful s) (A HP : Matrix) (same : (i j : ℕ) → i < s.rows → j < s.n → A i j ≡ HP i j) where
  pub mixed_independent : independent s.rows HP ≡ true → independent s.rows A ≡ true
  mixed_independent e =
      independent_same s.rows A HP (λ i j l m. sym (same i j l (omega (arith, h.columns)))) ∙ e

  pub mixed_public : public_key_of s (reduced_of s.rows A) ≡ public_key_of s (reduced_of s.rows HP)
  mixed_public =
      matrix_bytes_same s.rows (s.vector - s.body) (reduced_of s.rows A) (reduced_of s.rows HP)
      (λ i j l m. reduced_same s.rows s.k A HP (λ a b p q. sym (same a b p (omega (arith, h.columns)))) i j (omega (arith, h.body, h.vector, h.columns)))

  pub mixed_secret : (support g mixing decoy : List ℕ) → written s support g A mixing decoy ≡ written s support g HP mixing decoy
  unfolding written
  mixed_secret support g mixing decoy =
      ap (λ (x : List ℕ). word_bytes support ++ (word_bytes (take s.t g) ++ (x ++ (mixing ++ decoy))))
      (matrix_bytes_same s.rows s.body A HP (λ i j l m. same i j l (omega (arith, h.body, h.columns))))

-- the written M, with HP's
pub public_echelon :
    (s : Sizes) → Lawful s → (HP : Matrix) → independent s.rows HP ≡ true
    → Echelon s.rows s.k HP (public_matrix s (public_key_of s (reduced_of s.rows HP)))
public_echelon s h HP e =
    let M = reduced_of s.rows HP in
    let is = reduced_exists s.rows s.k HP e in
    echelon_is s.rows s.k HP (systematic s.rows M) (public_matrix s (public_key_of s M))
    (omega arith, (is.kernel, λ i j l m. front_column s.rows M i j m))
    (λ i j l m. matrix_of_bytes s.rows (s.vector - s.body) M i j l (omega (arith, h.body, h.vector, h.columns)) ∙ sym (back_column s.rows M i j))
