-- The meaning of the labelled hash.
use Rattle.std.specs.Prelude.{◌≡◌, ℕ, true, false, cond, List, ◌++◌, length, nat_lt}

-- the rule over a hash with this capacity and rule: the label stands before the bytes, unless the capacity is under 8
abbrev pub labelled : ℕ → List ℕ → (List ℕ → List ℕ) → List ℕ → List ℕ
labelled capacity label rule xs = cond (nat_lt capacity 8) (rule xs) (rule (label ++ xs))

-- the bytes that can still be taken over a hash with this capacity, of which so many are left
abbrev pub left_under : ℕ → ℕ → ℕ
left_under capacity left = cond (nat_lt capacity 8) 0 left

-- it gives as many bytes as the rule
pub labelled_length : (capacity : ℕ) (label : List ℕ) (rule : List ℕ → List ℕ) (n : ℕ) → ((xs : List ℕ) → length (rule xs) ≡ n)
    → (xs : List ℕ) → length (labelled capacity label rule xs) ≡ n
labelled_length capacity label rule n wide xs =
    elim (nat_lt capacity 8) as (λ b. length (cond b (rule xs) (rule (label ++ xs))) ≡ n) [ true ↦ wide xs | false ↦ wide (label ++ xs) ]
