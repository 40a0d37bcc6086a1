-- The first number that passes a test.
use Rattle.std.proofs.Common.{◌≡◌, ℕ, zero, suc, ◌<◌, ◌≤◌, Bool, true, false, Option, Some, None, sym, ◌∙◌, inl, inr, arith}
use Rattle.std.proofs.lemmas.Bool.{cases_Bool, cases_order, both_ways}
use Rattle.bits.specs.Search.{first_place, Found}

pub first_le : (n : ℕ) (p : ℕ → Bool) → first_place n p ≤ n
unfolding first_place
first_le zero p = omega arith
first_le (suc n) p =
    let l : first_place n (λ i. p (suc i)) ≤ n = first_le n (λ i. p (suc i)) in
    elim (cases_Bool (p 0)) [ inl t ↦ rw t (omega arith) | inr f ↦ rw f (omega arith) ]

pub first_before : (n : ℕ) (p : ℕ → Bool) (j : ℕ) → j < first_place n p → p j ≡ false
unfolding first_place
first_before zero p j l = absurd (omega arith)
first_before (suc n) p zero l =
    elim (cases_Bool (p 0)) [ inl t ↦ let m : 0 < 0 = rw t at l in absurd (omega arith) | inr f ↦ f ]
first_before (suc n) p (suc j) l =
    elim (cases_Bool (p 0)) [
      | inl t ↦ let m : suc j < 0 = rw t at l in absurd (omega arith)
      | inr f ↦
          let m : suc j < suc (first_place n (λ i. p (suc i))) = rw f at l in
          first_before n (λ i. p (suc i)) j (omega arith)
    ]

pub first_here : (n : ℕ) (p : ℕ → Bool) → first_place n p < n → p (first_place n p) ≡ true
unfolding first_place
first_here zero p l = absurd (omega arith)
first_here (suc n) p l =
    elim (cases_Bool (p 0)) [
      | inl t ↦ rw (t, t)
      | inr f ↦
          let m : suc (first_place n (λ i. p (suc i))) < suc n = rw f at l in
          rw f (first_here n (λ i. p (suc i)) (omega arith))
    ]

-- it is the only number with none before it that passes
pub first_is :
    (n : ℕ) (p : ℕ → Bool) (i : ℕ) → i ≤ n → ((j : ℕ) → j < i → p j ≡ false) → (i < n → p i ≡ true) → first_place n p ≡ i
first_is n p i le before here =
    elim (cases_order (first_place n p) i) [
      | inl e ↦ e
      | inr d ↦
          elim d [
            | inl l ↦ absurd (both_ways (p (first_place n p)) (before (first_place n p) l) (first_here n p (omega arith)))
            | inr l ↦ absurd (both_ways (p i) (first_before n p i l) (here (omega (arith, first_le n p))))
          ]
    ]

pub first_none : (n : ℕ) (p : ℕ → Bool) → ((j : ℕ) → j < n → p j ≡ false) → first_place n p ≡ n
first_none n p h = first_is n p n (omega arith) h (λ l. absurd (omega arith))

-- it looks at the numbers below n alone
pub first_same : (n : ℕ) (p q : ℕ → Bool) → ((j : ℕ) → j < n → p j ≡ q j) → first_place n p ≡ first_place n q
first_same n p q h =
    let le : first_place n q ≤ n = first_le n q in
    first_is n p (first_place n q) le (λ j l. h j (omega arith) ∙ first_before n q j l) (λ l. h (first_place n q) l ∙ first_here n q l)

-- what a search over the same numbers answers, where the test is told in other words
pub found_same : (n : ℕ) (p q : ℕ → Bool) (o : Option ℕ) → ((j : ℕ) → j < n → p j ≡ q j) → Found o n q → Found o n p
found_same n p q None h f = first_same n p q h ∙ f
found_same n p q (Some i) h f = (f.0, f.1 ∙ sym (first_same n p q h))
