-- What rows that do not apply leave true.
use Rattle.std.proofs.Common.{◌≡◌, ℕ, ◌≤◌, Bool, true, false, cond, eqb, ltb, List, [], ◌∷◌, Ok, Err, refl, ap, arith}
use Rattle.levels.specs.declared.faults.Fault.{Fault}
use Rattle.std.proofs.lemmas.Bool.{eqb-true, ltb-false, not-false}
use Rattle.levels.specs.Rows.{Row, row, first_of, length_row}

-- where no row answered, the first did not
pub first_passed :
    {X : Type 0} (r : Row) (rows : List Row) (x z : X) → first_of (r ∷ rows) x ≡ Ok z → (r.applies ≡ false) × (first_of rows x ≡ Ok z)
first_passed {X} r rows x z e = at r.applies e where
  at : (b : Bool) → cond b (Err r.fault) (first_of rows x) ≡ Ok z → (b ≡ false) × (first_of rows x ≡ Ok z)
  at true q = let n : ◌≡◌ {A = ℕ} 0 1 = cc in absurd (omega arith)
  at false q = (refl, q)

-- a buffer's length
pub length_passed :
    {X : Type 0} (buffer is should : ℕ) (rows : List Row) (x z : X) → first_of (length_row buffer is should ∷ rows) x ≡ Ok z
    → (is ≡ should) × (first_of rows x ≡ Ok z)
length_passed buffer is should rows x z e =
    let p = first_passed (length_row buffer is should) rows x z e in
    (eqb-true is should (not-false (eqb is should) p.0), p.1)

-- a lower bound
pub bound_passed :
    {X : Type 0} (is least : ℕ) (f : Fault) (rows : List Row) (x z : X) → first_of (row (ltb is least) f ∷ rows) x ≡ Ok z
    → (least ≤ is) × (first_of rows x ≡ Ok z)
bound_passed is least f rows x z e =
    let p = first_passed (row (ltb is least) f) rows x z e in
    (ltb-false is least p.0, p.1)

-- what is given where no row answers
pub last_passed : {X : Type 0} (rows : List Row) (x z : X) → first_of rows x ≡ Ok z → z ≡ x
last_passed [] x z e = cc
last_passed (r ∷ rows) x z e = last_passed rows x z (first_passed r rows x z e).1

-- a row that answers does so whatever would be given
pub first_refused : {X Y : Type 0} (rows : List Row) (x : X) (y : Y) (f : Fault) → first_of rows x ≡ Err f → first_of rows y ≡ Err f
first_refused [] x y f e = let z : ◌≡◌ {A = ℕ} 0 1 = cc in absurd (omega arith)
first_refused {X} {Y} (r ∷ rows) x y f e = at r.applies (first_refused rows x y f) e where
  at :
      (b : Bool) → (first_of rows x ≡ Err f → first_of rows y ≡ Err f) → cond b (Err r.fault) (first_of rows x) ≡ Err f
      → cond b (Err r.fault) (first_of rows y) ≡ Err f
  at true h q = let same : r.fault ≡ f = cc in ap Err same
  at false h q = h q
