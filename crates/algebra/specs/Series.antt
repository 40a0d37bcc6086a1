-- Polynomials by their coefficients: functions that are zero from some number on. Two are equal where all coefficients are.
use Rattle.std.specs.Prelude.{◌≡◌, ℕ, zero, suc, ◌≤◌, List, ◌≢◌, slice_index_or}
use Rattle.algebra.specs.Field.{Ops}
use Rattle.algebra.specs.Ring.{Ring}

abbrev pub Series : Type 0 → Type 0
Series A = ℕ → A

-- the degree lies below n
abbrev pub Below : {A : Type 0} → Ops A → ℕ → Series A → Type 0
Below f n p = (i : ℕ) → n ≤ i → p i ≡ f.zero

-- the degree is n
abbrev pub Degree : {A : Type 0} → Ops A → ℕ → Series A → Type 0
Degree f n p = (p n ≢ f.zero) × Below f (suc n) p

-- the coefficients in a list
abbrev pub ser : {A : Type 0} → Ring A → List A → Series A
ser r l i = slice_index_or l i r.zero

-- what stands after the first coefficient
abbrev pub tail : {A : Type 0} → Series A → Series A
tail p i = p (suc i)

abbrev pub times : {A : Type 0} → Ring A → Series A → Series A → ℕ → A
times r p q zero = r.mul (p 0) (q 0)
times r p q (suc n) = r.add (r.mul (p 0) (q (suc n))) (times r (tail p) q n)

abbrev pub unit : {A : Type 0} → Ring A → ℕ → A
unit r zero = r.one
unit r (suc n) = r.zero

-- the ring of the polynomials
abbrev pub series : {A : Type 0} → Ring A → Ring (Series A)
series r = record { zero = λ i. r.zero; one = unit r; add = λ p q i. r.add (p i) (q i); mul = λ p q n. times r p q n }
