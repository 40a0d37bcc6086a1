-- A matrix whose first columns are independent has a reduced row echelon form: the elimination, over functions.
use Rattle.std.proofs.Common.{◌≡◌, ℕ, zero, suc, ◌+◌, ◌-◌, ◌<◌, ◌≤◌, true, false, ◌&&◌, eqb, sym, refl, ◌∙◌, inl, inr, add-one, arith}
use Rattle.std.proofs.lemmas.Bool.{cases_Bool, cases_eq, cases_lt, eq-eqb, ne_eqb}
use Rattle.bits.specs.Vectors.{◌⊕◌, Matrix}
use Rattle.bits.specs.Kernels.{Independent, independent, Reduced, Echelon}
use Rattle.bits.specs.Elimination.{Added, LowRows, Kept, Pivoted, Settled}
use Rattle.bits.specs.Search.{first_place}
use Rattle.bits.specs.Reduced.{reduced_of}
use Rattle.bits.proofs.Sums.{xor_zero}
use Rattle.bits.proofs.Rows.{keeps_refl}
use Rattle.bits.proofs.Reduction.{not_both, echelon_is}
use Rattle.bits.proofs.Elimination.{PartDone, Cleared, kept_low, pivot_added, cleared_skip, cleared_added, cleared_all, settled_after, done_more, done_stuck}
use Rattle.bits.proofs.Search.{first_before, first_here}
use Rattle.bits.proofs.Rank.{full_rank}
use Rattle.bits.proofs.RankOf.{rank_is, rank_full}
use Rattle.bits.proofs.ReducedOf.{reduced_is}

-- row `from` added to row `into`
with_row : ℕ → ℕ → Matrix → Matrix
with_row from into A i j = A i j ⊕ (eqb i into && A from j)

with_row_added : (n from into : ℕ) (A : Matrix) → Added n from into A (with_row from into A)
unfolding with_row
with_row_added n from into A =
    (λ i j l d. rw (ne_eqb i into d) (xor_zero (A i j)), λ j l. rw (eq-eqb into into refl))

kept_refl : (r n c : ℕ) (B : Matrix) → Kept r n c B B
kept_refl r n c B = record { kernel = keeps_refl r n B; columns = λ i j l m. refl }

-- a one in row p, from row k on, gets into row k
pivoted :
    (r n k c p : ℕ) (B : Matrix) → c < n → k ≤ p → p < r → LowRows r k c B → B p c ≡ true → (C : Matrix) × Pivoted r n k c B C
pivoted r n k c p B ln lk lp low e =
    elim (cases_Bool (B k c)) [
      | inl t ↦ (B, record { kept = kept_refl r n c B; one = t })
      | inr f ↦
          elim (cases_eq k p) [
            | inl q ↦ (B, record { kept = kept_refl r n c B; one = rw q e })
            | inr d ↦ (with_row p k B, pivot_added r n k c p B (with_row p k B) ln (omega arith) lp low f e (with_row_added n p k B))
          ]
    ]

-- and the other rows are cleared, one after the other
cleared :
    (r n k c : ℕ) (B : Matrix) → c < n → k < r → LowRows r k c B → B k c ≡ true → (i : ℕ) → i ≤ r
    → (C : Matrix) × Cleared r n k c i B C
cleared r n k c B ln lk low e zero l =
    (B, record { kept = kept_refl r n c B; one = e; none = λ j m d. absurd (omega arith) })
cleared r n k c B ln lk low e (suc i) l =
    let s : (C : Matrix) × Cleared r n k c i B C = cleared r n k c B ln lk low e i (omega arith) in
    let C : Matrix = s.0 in
    rw (← add-one i)
    (elim (cases_eq i k) [
      | inl q ↦ (C, cleared_skip r n k c i B C s.1 (λ d. absurd (d q)))
      | inr d ↦
          elim (cases_Bool (C i c)) [
            | inl t ↦ (with_row k i C, cleared_added r n k c i B C (with_row k i C) ln lk (omega arith) d low s.1 t (with_row_added n k i C))
            | inr f ↦ (C, cleared_skip r n k c i B C s.1 (λ _. f))
          ]
    ])

settled :
    (r n k c p : ℕ) (B : Matrix) → c < n → k ≤ p → p < r → LowRows r k c B → B p c ≡ true → (C : Matrix) × Settled r n k c B C
settled r n k c p B ln lk lp low e =
    let s : (C : Matrix) × Pivoted r n k c B C = pivoted r n k c p B ln lk lp low e in
    let t : (D : Matrix) × Cleared r n k c r s.0 D =
    cleared r n k c s.0 ln (omega arith) (kept_low r n c k B s.0 s.1.kept low) s.1.one r (omega arith) in
    (t.0, settled_after r n k c B s.0 t.0 s.1.kept (cleared_all r n k c s.0 t.0 t.1))

-- column after column
part_done : (r n : ℕ) (A : Matrix) → r ≤ n → Independent r A → (c : ℕ) → c ≤ r → (B : Matrix) × PartDone r n c A B
part_done r n A le ind zero l =
    (A, record { kernel = keeps_refl r n A; units = λ i j p q. absurd (omega arith) })
part_done r n A le ind (suc c) l =
    let s : (B : Matrix) × PartDone r n c A B = part_done r n A le ind c (omega arith) in
    rw (← add-one c) (next s.0 s.1) where
      next : (B : Matrix) → PartDone r n c A B → (C : Matrix) × PartDone r n (c + 1) A C
      next B h =
          elim (cases_lt (first_place (r - c) (λ i. B (c + i) c)) (r - c)) [
            | inl m ↦
                let t : (C : Matrix) × Settled r n c c B C =
                settled r n c c (c + first_place (r - c) (λ i. B (c + i) c)) B (omega arith) (omega arith) (omega arith)
                (λ i j p q u. h.units i j q u ∙ ne_eqb i j (omega arith)) (first_here (r - c) (λ i. B (c + i) c) m) in
                (t.0, done_more r n c A B t.0 h t.1)
            | inr m ↦ absurd (not_both r A (done_stuck r n c A B le (omega arith) h (nought m)) ind)
          ] where
            nought : r - c ≤ first_place (r - c) (λ i. B (c + i) c) → (i : ℕ) → c ≤ i → i < r → B i c ≡ false
            nought m i p q =
                let e : c + (i - c) ≡ i = omega arith in
                rw e at (first_before (r - c) (λ i. B (c + i) c) (i - c) (omega arith))

pub reduced_exists : (r k : ℕ) (A : Matrix) → independent r A ≡ true → Echelon r k A (reduced_of r A)
reduced_exists r k A e =
    let s : (B : Matrix) × PartDone r (r + k) r A B = part_done r (r + k) A (omega arith) (full_rank (rank_is r r A) (rank_full r A e)) r (omega arith) in
    let M : Matrix = λ i j. s.0 i (r + j) in
    let h : Reduced r (r + k) A s.0 = (omega arith, (s.1.kernel, s.1.units)) in
    echelon_is r k A s.0 (reduced_of r A) h
    (λ i j l m. sym (reduced_is r k A M (echelon_is r k A s.0 M h (λ p q t u. refl)) i j l m))
