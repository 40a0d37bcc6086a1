-- The first number of a list that passes a test.
use Rattle.std.proofs.Common.{◌≡◌, ℕ, ◌≤◌, Bool, cond, ltb, List, length, get_or, Option, Some, None, refl, inl, inr, arith}
use Rattle.std.specs.List.{position_or_len}
use Rattle.std.proofs.lemmas.Bool.{cases_lt, lt-ltb, le-ltb}
use Rattle.std.proofs.lemmas.List.Sums.{position_or_len_is}
use Rattle.bits.specs.Search.{first_place, Found}
use Rattle.bits.proofs.Search.{first_le, first_before, first_here}

pub found_position :
    (p : ℕ → Bool) (xs : List ℕ) (o : Option ℕ) → o ≡ cond (ltb (position_or_len p xs) (length xs)) (Some (position_or_len p xs)) None
    → Found o (length xs) (λ j. p (get_or xs j 0))
found_position p xs o e =
    let n = length xs in
    let q : ℕ → Bool = λ j. p (get_or xs j 0) in
    let f = first_place n q in
    let h : position_or_len p xs ≡ f = position_or_len_is p xs f 0 (first_le n q) (λ k l. first_before n q k l) (λ l. first_here n q l) in
    let le : f ≤ n = first_le n q in
    elim (cases_lt f n) [
      | inl l ↦ let s : o ≡ Some f = rw (h, lt-ltb f n l) at e in rw s (l, refl)
      | inr m ↦ let s : o ≡ None = rw (h, le-ltb f n m) at e in rw s (omega arith)
    ]
