-- The steps of the elimination.
use Rattle.std.proofs.Common.{◌≡◌, ℕ, ◌+◌, ◌<◌, ◌≤◌, true, false, eqb, sym, refl, ◌∙◌, inl, inr, arith}
use Rattle.std.proofs.lemmas.Bool.{cases_eq, cases_lt, eq-eqb, ne_eqb}
use Rattle.bits.specs.Vectors.{◌⊕◌, Matrix}
use Rattle.bits.specs.Kernels.{Same, SameKernel, UnitColumns, Dependent}
use Rattle.bits.specs.Elimination.{Added, LowRows, Kept, Pivoted, Settled}
use Rattle.bits.proofs.Sums.{xor_zero}
use Rattle.bits.proofs.Rows.{added_keeps, keeps_trans}
use Rattle.bits.proofs.Reduction.{no_pivot}

-- Before column c: B has the kernel of A, and its first c columns are those of the unit matrix.
pub record PartDone (r n c : ℕ) (A B : Matrix) : Type 0 where
  pub kernel : SameKernel r n A B
  pub units : UnitColumns r c B

-- Before row i: column c has a one in row k, and zeros in the rows before i but k.
pub record Cleared (r n k c i : ℕ) (B C : Matrix) : Type 0 where
  pub kept : Kept r n c B C
  pub one : C k c ≡ true
  pub none : (l : ℕ) → l < i → (l ≡ k → ⊥) → C l c ≡ false

pub kept_trans : (r n c : ℕ) (B C D : Matrix) → Kept r n c B C → Kept r n c C D → Kept r n c B D
kept_trans r n c B C D h g =
    record {
      kernel = keeps_trans r n B C D h.kernel g.kernel;
      columns = λ i j l m. g.columns i j l m ∙ h.columns i j l m;
    }

pub kept_low : (r n c k : ℕ) (B C : Matrix) → Kept r n c B C → LowRows r k c B → LowRows r k c C
kept_low r n c k B C h low i j l m p = h.columns i j m p ∙ low i j l m p

-- a row from k on is 0 before column c, so that adding it leaves the columns there
pub added_kept :
    (r n k c from into : ℕ) (B C : Matrix) → c ≤ n → k ≤ from → from < r → into < r → (from ≡ into → ⊥) → LowRows r k c B
    → Added n from into B C → Kept r n c B C
added_kept r n k c from into B C ln lk lf li ne low a =
    record { kernel = added_keeps r n from into B C lf li ne a; columns = columns } where
      columns : Same r c B C
      columns i j l m =
          elim (cases_eq i into) [
            | inl e ↦
                let t : C i j ≡ (B i j ⊕ B from j) = rw e (a.1 j (omega arith)) in
                t ∙ rw (low from j lk lf m) (xor_zero (B i j))
            | inr d ↦ a.0 i j (omega arith) d
          ]

pub pivot_added :
    (r n k c p : ℕ) (B C : Matrix) → c < n → k < p → p < r → LowRows r k c B → B k c ≡ false → B p c ≡ true
    → Added n p k B C → Pivoted r n k c B C
pivot_added r n k c p B C ln lp lr low nought unit a =
    record {
      kept = added_kept r n k c p k B C (omega arith) (omega arith) lr (omega arith) (omega arith) low a;
      one = a.1 c ln ∙ rw (nought, unit);
    }

-- a row that has 0 there, or is row k
pub cleared_skip :
    (r n k c i : ℕ) (B C : Matrix) → Cleared r n k c i B C → ((i ≡ k → ⊥) → C i c ≡ false) → Cleared r n k c (i + 1) B C
cleared_skip r n k c i B C h e =
    record {
      kept = h.kept;
      one = h.one;
      none = λ l m d. elim (cases_eq l i) [ inl q ↦ rw q (e (λ f. d (q ∙ f))) | inr q ↦ h.none l (omega arith) d ];
    }

pub cleared_added :
    (r n k c i : ℕ) (B C D : Matrix) → c < n → k < r → i < r → (i ≡ k → ⊥) → LowRows r k c B → Cleared r n k c i B C
    → C i c ≡ true → Added n k i C D → Cleared r n k c (i + 1) B D
cleared_added r n k c i B C D ln lk li d low h e a =
    cleared_skip r n k c i B D
    (record {
      kept =
          kept_trans r n c B C D h.kept
          (added_kept r n k c k i C D (omega arith) (omega arith) lk li (λ f. d (sym f)) (kept_low r n c k B C h.kept low) a);
      one = a.0 k c ln (λ f. d (sym f)) ∙ h.one;
      none = λ l m f. a.0 l c ln (omega arith) ∙ h.none l m f;
    })
    (λ _. a.1 c ln ∙ rw (e, h.one))

pub cleared_all : (r n k c : ℕ) (B C : Matrix) → Cleared r n k c r B C → Settled r n k c B C
cleared_all r n k c B C h =
    record {
      kept = h.kept;
      column =
          λ i l. elim (cases_eq i k) [
            | inl e ↦ let s : C k c ≡ eqb k k = h.one ∙ sym (eq-eqb k k refl) in rw e s
            | inr d ↦ h.none i l d ∙ sym (ne_eqb i k d)
          ];
    }

pub settled_after : (r n k c : ℕ) (B C D : Matrix) → Kept r n c B C → Settled r n k c C D → Settled r n k c B D
settled_after r n k c B C D h g = record { kept = kept_trans r n c B C D h g.kept; column = g.column }

-- ---- the elimination to [I | M]

pub done_more : (r n c : ℕ) (A B C : Matrix) → PartDone r n c A B → Settled r n c c B C → PartDone r n (c + 1) A C
done_more r n c A B C h g =
    record { kernel = keeps_trans r n A B C h.kernel g.kept.kernel; units = units } where
      units : UnitColumns r (c + 1) C
      units i j l m =
          elim (cases_lt j c) [
            | inl p ↦ g.kept.columns i j l p ∙ h.units i j l p
            | inr p ↦ let q : j ≡ c = omega arith in rw q (g.column i l)
          ]

pub done_stuck :
    (r n c : ℕ) (A B : Matrix) → r ≤ n → c < r → PartDone r n c A B → ((i : ℕ) → c ≤ i → i < r → B i c ≡ false) → Dependent r A
done_stuck r n c A B l lc h none = no_pivot r n c A B l lc h.kernel h.units none
