-- The test of independence.
use Rattle.std.proofs.Common.{◌≡◌, ℕ, zero, suc, ◌+◌, ◌<◌, ◌≤◌, Bool, true, false, cond, not, ◌&&◌, ◌||◌, eqb, Ok, Err, Result, is_ok, MatchBool, MatchResult, sym, refl, ◌∙◌, inl, inr, arith}
use Rattle.std.proofs.lemmas.Bool.{cases_eq, cases_Bool, eq-eqb, ne_eqb, both_ways}
use Rattle.bits.specs.Vectors.{◌⊕◌, Vector, Matrix, times, weight}
use Rattle.bits.specs.Kernels.{Same, InKernel, Independent, Dependent, some_vector, relates, independent, Reduced}
use Rattle.bits.proofs.Sums.{xor_zero, dot_same}
use Rattle.bits.proofs.Reduction.{injective}

pub weight_none : (n : ℕ) (v : Vector) → ((k : ℕ) → k < n → v k ≡ false) → weight n v ≡ 0
unfolding weight
weight_none zero v h = refl
weight_none (suc n) v h = rw (weight_none n v (λ k l. h k (omega arith)), h n (omega arith))

pub none_weight : (n : ℕ) (v : Vector) → weight n v ≡ 0 → (k : ℕ) → k < n → v k ≡ false
unfolding weight
none_weight zero v e k l = absurd (omega arith)
none_weight (suc n) v e k l =
    elim (cases_Bool (v n)) [
      | inl t ↦ let s : weight n v + 1 ≡ 0 = rw t at e in absurd (omega arith)
      | inr f ↦
          let s : weight n v ≡ 0 = omega (arith, e) in
          elim (cases_eq k n) [ inl q ↦ rw q f | inr d ↦ none_weight n v s k (omega arith) ]
    ]

pub weight_same : (n : ℕ) (v w : Vector) → ((k : ℕ) → k < n → v k ≡ w k) → weight n v ≡ weight n w
unfolding weight
weight_same zero v w h = refl
weight_same (suc n) v w h = rw (weight_same n v w (λ k l. h k (omega arith)), h n (omega arith))

-- a vector that is not 0
some_one : (n : ℕ) (v : Vector) → (weight n v ≡ 0 → ⊥) → (k : ℕ) × ((k < n) × (v k ≡ true))
unfolding weight
some_one zero v d = absurd (d refl)
some_one (suc n) v d =
    elim (cases_Bool (v n)) [
      | inl t ↦ (n, (omega arith, t))
      | inr f ↦
          let s : (k : ℕ) × ((k < n) × (v k ≡ true)) = some_one n v (λ e. d (rw (e, f))) in
          (s.0, (let m = s.1.0 in omega arith, s.1.1))
    ]

pub found : (n : ℕ) (p : Vector → Bool) → some_vector n p ≡ true → (z : Vector) × (p z ≡ true)
unfolding some_vector
found zero p e = (λ _. false, e)
found (suc n) p e =
    elim (cases_Bool (some_vector n p)) [
      | inl t ↦ found n p t
      | inr f ↦
          let s : (z : Vector) × (p (λ j. z j ⊕ eqb j n) ≡ true) = found n (λ z. p (λ j. z j ⊕ eqb j n)) (rw f at e) in
          (λ j. s.0 j ⊕ eqb j n, s.1)
    ]

-- the vector that the search tries for v
tries : ℕ → Vector → Vector
tries zero v = λ _. false
tries (suc n) v = cond (v n) (λ j. tries n v j ⊕ eqb j n) (tries n v)

tries_above : (n : ℕ) (v : Vector) (j : ℕ) → n ≤ j → tries n v j ≡ false
unfolding tries
tries_above zero v j l = refl
tries_above (suc n) v j l =
    elim (cases_Bool (v n)) [
      | inl t ↦ rw (t, tries_above n v j (omega arith), ne_eqb j n (omega arith))
      | inr f ↦ rw f (tries_above n v j (omega arith))
    ]

tries_below : (n : ℕ) (v : Vector) (j : ℕ) → j < n → tries n v j ≡ v j
unfolding tries
tries_below zero v j l = absurd (omega arith)
tries_below (suc n) v j l =
    elim (cases_eq j n) [
      | inl e ↦
          rw e (elim (cases_Bool (v n)) [
            | inl t ↦ rw (t, tries_above n v n (omega arith), eq-eqb n n refl)
            | inr f ↦ rw f (tries_above n v n (omega arith))
          ])
      | inr d ↦
          elim (cases_Bool (v n)) [
            | inl t ↦ rw (t, ne_eqb j n d) (xor_zero (tries n v j) ∙ tries_below n v j (omega arith))
            | inr f ↦ rw f (tries_below n v j (omega arith))
          ]
    ]

or_left : (a b : Bool) → a ≡ true → (a || b) ≡ true
or_left a b e = rw e

or_right : (a b : Bool) → b ≡ true → (a || b) ≡ true
or_right true b e = refl
or_right false b e = e

tried_all : (n : ℕ) (p : Vector → Bool) (v : Vector) → p (tries n v) ≡ true → some_vector n p ≡ true
unfolding some_vector tries
tried_all zero p v e = e
tried_all (suc n) p v e =
    elim (cases_Bool (v n)) [
      | inl t ↦ or_right (some_vector n p) (some_vector n (λ z. p (λ j. z j ⊕ eqb j n))) (tried_all n (λ z. p (λ j. z j ⊕ eqb j n)) v (rw t at e))
      | inr f ↦ or_left (some_vector n p) (some_vector n (λ z. p (λ j. z j ⊕ eqb j n))) (tried_all n p v (rw f at e))
    ]

-- a vector that passes is found, if only its first n places count
pub some_passes : (n : ℕ) (p : Vector → Bool) (v : Vector) → ((y : Vector) → ((k : ℕ) → k < n → y k ≡ v k) → p y ≡ p v) → p v ≡ true → some_vector n p ≡ true
some_passes n p v h e = tried_all n p v (h (tries n v) (tries_below n v) ∙ e)

relates_same : (r : ℕ) (A : Matrix) (y z : Vector) → ((k : ℕ) → k < r → y k ≡ z k) → relates r A y ≡ relates r A z
unfolding relates
relates_same r A y z h =
    rw (weight_same r y z h, weight_same r (times r A y) (times r A z) (λ i l. dot_same r (A i) (A i) y z (λ j m. refl) h))

both_true : (a b : Bool) → (a && b) ≡ true → (a ≡ true) × (b ≡ true)
both_true true b e = (refl, e)
both_true false b e = absurd (both_ways false refl e)

-- what the test finds
relation_is : (r : ℕ) (A : Matrix) (z : Vector) → relates r A z ≡ true → InKernel r r A z × ((k : ℕ) × ((k < r) × (z k ≡ true)))
unfolding relates
relation_is r A z e =
    let s : (not (eqb (weight r z) 0) ≡ true) × (eqb (weight r (times r A z)) 0 ≡ true) = both_true (not (eqb (weight r z) 0)) (eqb (weight r (times r A z)) 0) e in
    (inside s.1, some_one r z (λ q. both_ways (not (eqb (weight r z) 0)) (rw (eq-eqb (weight r z) 0 q)) s.0)) where
      inside : eqb (weight r (times r A z)) 0 ≡ true → InKernel r r A z
      inside t =
          elim (cases_eq (weight r (times r A z)) 0) [
            | inl q ↦ none_weight r (times r A z) q
            | inr d ↦ absurd (both_ways (eqb (weight r (times r A z)) 0) (ne_eqb (weight r (times r A z)) 0 d) t)
          ]

is_relation : (r : ℕ) (A : Matrix) (z : Vector) → InKernel r r A z → (k : ℕ) → k < r → z k ≡ true → relates r A z ≡ true
unfolding relates
is_relation r A z h k l e =
    rw (eq-eqb (weight r (times r A z)) 0 (weight_none r (times r A z) h), ne_eqb (weight r z) 0 (λ q. both_ways (z k) (none_weight r z q k l) e))

pub dependent_found : (r : ℕ) (A : Matrix) → Dependent r A → independent r A ≡ false
unfolding independent
dependent_found r A d =
    let z : Vector = d.0 in
    rw (some_passes r (relates r A) z (λ y h. relates_same r A y z h) (is_relation r A z d.1.0 d.1.1.0 d.1.1.1.0 d.1.1.1.1))

pub independent_found : (r : ℕ) (A : Matrix) → Independent r A → independent r A ≡ true
unfolding independent
independent_found r A h =
    elim (cases_Bool (some_vector r (relates r A))) [
      | inl t ↦
          let s : (z : Vector) × (relates r A z ≡ true) = found r (relates r A) t in
          let q : InKernel r r A s.0 × ((k : ℕ) × ((k < r) × (s.0 k ≡ true))) = relation_is r A s.0 s.1 in
          absurd (both_ways (s.0 q.1.0) (h s.0 q.0 q.1.0 q.1.1.0) q.1.1.1)
      | inr f ↦ rw f
    ]

pub decided : (r : ℕ) (A : Matrix) (b : Bool) → MatchBool b (Independent r A) (Dependent r A) → b ≡ independent r A
decided r A true h = sym (independent_found r A h)
decided r A false h = sym (dependent_found r A h)

-- the test looks at the first r rows and columns alone
pub some_same : (n : ℕ) (p q : Vector → Bool) → ((z : Vector) → p z ≡ q z) → some_vector n p ≡ some_vector n q
unfolding some_vector
some_same zero p q h = h (λ _. false)
some_same (suc n) p q h =
    rw (some_same n p q h, some_same n (λ z. p (λ j. z j ⊕ eqb j n)) (λ z. q (λ j. z j ⊕ eqb j n)) (λ z. h (λ j. z j ⊕ eqb j n)))

pub independent_same : (r : ℕ) (A B : Matrix) → Same r r A B → independent r A ≡ independent r B
unfolding independent relates
independent_same r A B s =
    rw (some_same r (relates r A) (relates r B)
    (λ z. rw (weight_same r (times r A z) (times r B z) (λ i l. dot_same r (A i) (B i) z z (λ j m. sym (s i j l m)) (λ j m. refl)))))

-- the outcome of an elimination says which
pub reduced_decides :
    {E : Type 0} → (r n : ℕ) (A B : Matrix) (o : Result (Unit {0}) E) → MatchResult o (λ _. Reduced r n A B) (λ _. Dependent r A)
    → MatchBool (is_ok o) (Independent r A) (Dependent r A)
reduced_decides r n A B (Ok x) h = injective r n A B h
reduced_decides r n A B (Err e) h = h

-- the same, where it answers yes or no
pub reduced_decides_if : (r n : ℕ) (A B : Matrix) (b : Bool) → MatchBool b (Reduced r n A B) (Dependent r A) → MatchBool b (Independent r A) (Dependent r A)
reduced_decides_if r n A B true h = injective r n A B h
reduced_decides_if r n A B false h = h
