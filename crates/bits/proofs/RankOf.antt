-- The rank is the number of the columns that are no sum of earlier ones.
use Rattle.std.proofs.Common.{◌≡◌, ℕ, zero, suc, true, not, sym, refl, ap, ◌∙◌, inl, inr, add-zero, add-one, arith}
use Rattle.std.proofs.lemmas.Bool.{cases_Bool, eq-eqb, eqb-true, both_ways}
use Rattle.bits.specs.Vectors.{Vector, Matrix, weight}
use Rattle.bits.specs.Kernels.{Same, Spanned, Ranked, none, same, more, independent}
use Rattle.bits.specs.Solutions.{selects}
use Rattle.bits.specs.Rank.{spans, rank_of}
use Rattle.bits.proofs.Decision.{found, weight_same, some_same}
use Rattle.bits.proofs.Rank.{ranked_once, square_rank}
use Rattle.bits.proofs.Solutions.{selects_is, is_selects, selects_same, some_selects}

-- the test says whether a column is a sum of earlier ones
pub spanned_found : (r n : ℕ) (A : Matrix) → Spanned r n A → spans r n A ≡ true
unfolding spans
spanned_found r n A s = some_selects r n A (λ i. A i n) s.0 (is_selects r n A (λ i. A i n) s.0 s.1)

pub found_spanned : (r n : ℕ) (A : Matrix) → spans r n A ≡ true → Spanned r n A
unfolding spans
found_spanned r n A e =
    let s : (x : Vector) × (selects r n A (λ i. A i n) x ≡ true) = found n (selects r n A (λ i. A i n)) e in
    (s.0, selects_is r n A (λ i. A i n) s.0 s.1)

pub spans_same : (r n : ℕ) (A B : Matrix) → Same r (suc n) A B → spans r n A ≡ spans r n B
unfolding spans
spans_same r n A B s =
    some_same n (selects r n A (λ i. A i n)) (selects r n B (λ i. B i n))
    (λ z. selects_same r n A B (λ i. A i n) (λ i. B i n) z z (λ i j l m. s i j l (omega arith)) (λ i l. sym (s i n l (omega arith))) (λ j m. refl))

pub rank_is : (r n : ℕ) (A : Matrix) → Ranked r A n (rank_of r A n)
unfolding rank_of weight
rank_is r zero A = none
rank_is r (suc n) A =
    elim (cases_Bool (spans r n A)) [
      | inl t ↦ rw (t, add-zero (rank_of r A n)) (same (rank_is r n A) (found_spanned r n A t))
      | inr f ↦
          rw (f, add-one (rank_of r A n)) (more (rank_is r n A) (λ s. both_ways (spans r n A) f (spanned_found r n A s)))
    ]

pub ranked_is : (r n k : ℕ) (A : Matrix) → Ranked r A n k → k ≡ rank_of r A n
ranked_is r n k A h = ranked_once h (rank_is r n A)

-- the rank looks at the r rows and n columns alone
pub rank_same : (r n : ℕ) (A B : Matrix) → Same r n A B → rank_of r A n ≡ rank_of r B n
unfolding rank_of
rank_same r n A B s =
    weight_same n (λ c. not (spans r c A)) (λ c. not (spans r c B))
    (λ c l. ap not (spans_same r c A B (λ i j p q. s i j p (omega arith))))

pub rank_full : (r : ℕ) (A : Matrix) → independent r A ≡ true → rank_of r A r ≡ r
rank_full r A e = eqb-true (rank_of r A r) r (square_rank r (rank_of r A r) A (rank_is r r A) ∙ e)

pub full_independent : (r : ℕ) (A : Matrix) → rank_of r A r ≡ r → independent r A ≡ true
full_independent r A e = sym (square_rank r (rank_of r A r) A (rank_is r r A)) ∙ eq-eqb (rank_of r A r) r e
