-- Lists of points: those that pass a test, and those that differ by their places.
use Rattle.std.proofs.Common.{◌≡◌, ℕ, zero, suc, ◌<◌, ◌≤◌, Bool, true, false, cond, List, [], ◌∷◌, map, length, get_or, sym, refl, ap, ◌∙◌, inl, inr, arith}
use Rattle.std.proofs.lemmas.Bool.{cases_Bool, cases_eq}
use Rattle.bits.specs.Vectors.{weight}
use Rattle.patterson.specs.Points.{In, Distinct}
use Rattle.soundness.specs.Zeros.{passing}

pub passing_count : (n : ℕ) (p : ℕ → Bool) → length (passing n p) ≡ weight n p
unfolding passing weight
passing_count zero p = refl
passing_count (suc n) p =
    let e = passing_count n p in
    elim (cases_Bool (p n)) [ inl t ↦ rw t (omega arith) | inr f ↦ rw f (omega arith) ]

module _ {A : Type 0} (at : ℕ → A) where
  -- a point is that of a number below n that passes
  abbrev pub Passes : ℕ → (ℕ → Bool) → A → Type 0
  Passes n p x = (y : ℕ) × ((y < n) × ((p y ≡ true) × (x ≡ at y)))

  -- so is each point of the list
  pub in_passing : (n : ℕ) (p : ℕ → Bool) (x : A) → In x (map at (passing n p)) → Passes n p x
  unfolding passing
  in_passing zero p x i = absurd i
  in_passing (suc n) p x i = by (λ j. in_passing n p x j) (p n) refl i where
    later : Passes n p x → Passes (suc n) p x
    later w = let l = w.1.0 in (w.0, (omega arith, w.1.1))

    by : (In x (map at (passing n p)) → Passes n p x) → (b : Bool) → p n ≡ b → In x (map at (cond b (n ∷ passing n p) (passing n p))) → Passes (suc n) p x
    by r true e (inl q) = (n, (omega arith, (e, q)))
    by r true e (inr j) = later (r j)
    by r false e j = later (r j)

  -- and each number that passes is there
  pub passing_in : (n : ℕ) (p : ℕ → Bool) (y : ℕ) → y < n → p y ≡ true → In (at y) (map at (passing n p))
  unfolding passing
  passing_in zero p y l e = absurd (omega arith)
  passing_in (suc n) p y l e =
      elim (cases_eq y n) [
        | inl q ↦ let t : p n ≡ true = ap p (sym q) ∙ e in rw t (inl (ap at q))
        | inr d ↦
            let i : In (at y) (map at (passing n p)) = passing_in n p y (omega arith) e in
            elim (cases_Bool (p n)) [ inl t ↦ rw t (inr i) | inr f ↦ rw f i ]
      ]

  -- they differ where the points below a bound do
  pub passing_differ :
      (n k : ℕ) (p : ℕ → Bool) → n ≤ k → ((i j : ℕ) → i < k → j < k → at i ≡ at j → i ≡ j) → Distinct (map at (passing n p))
  unfolding passing
  passing_differ zero k p l h = tt
  passing_differ (suc n) k p l h =
      let d : Distinct (map at (passing n p)) = passing_differ n k p (omega arith) h in
      elim (cases_Bool (p n)) [ inl t ↦ rw t (fresh, d) | inr f ↦ rw f d ] where
        fresh : In (at n) (map at (passing n p)) → ⊥
        fresh i =
            let w = in_passing n p (at n) i in
            let m = w.1.0 in
            let e : n ≡ w.0 = h n w.0 (omega arith) (omega arith) w.1.1.1 in
            omega arith

module _ {A : Type 0} (d : A) where
  -- where a point stands
  pub in_at : (x : A) (l : List A) → In x l → (j : ℕ) × ((j < length l) × (x ≡ get_or l j d))
  in_at x [] i = absurd i
  in_at x (y ∷ l) (inl e) = (0, (omega arith, e))
  in_at x (y ∷ l) (inr i) = let w = in_at x l i in let m = w.1.0 in (suc w.0, (omega arith, w.1.1))

  pub differ_from : (l : List A) → ((i j : ℕ) → i < length l → j < length l → get_or l i d ≡ get_or l j d → i ≡ j) → Distinct l
  differ_from [] h = tt
  differ_from (x ∷ l) h = (fresh, differ_from l (λ i j a b e. let q : suc i ≡ suc j = h (suc i) (suc j) (omega arith) (omega arith) e in omega arith)) where
    fresh : In x l → ⊥
    fresh i =
        let w = in_at x l i in
        let m = w.1.0 in
        let q : 0 ≡ suc w.0 = h 0 (suc w.0) (omega arith) (omega arith) w.1.1 in
        omega arith
