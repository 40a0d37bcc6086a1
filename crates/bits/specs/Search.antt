-- The search for the first number that passes a test.
use Rattle.std.specs.Prelude.{◌≡◌, ℕ, zero, suc, ◌<◌, Bool, cond, Option, MatchOption}

-- the first number below n that passes, or n where none does
unfoldable pub first_place : ℕ → (ℕ → Bool) → ℕ
first_place zero p = 0
first_place (suc n) p = cond (p 0) 0 (suc (first_place n (λ i. p (suc i))))

-- what a search answers: the first number below n that passes, or that none does
abbrev pub Found : Option ℕ → ℕ → (ℕ → Bool) → Type 0
Found o n p = MatchOption o (first_place n p ≡ n) (λ i. (i < n) × (i ≡ first_place n p))
