-- What rows answer: the first that applies stops, and one that does not is passed.
use Rattle.std.proofs.Common.{◌≡◌, ℕ, ◌<◌, ◌≤◌, Bool, true, false, cond, eqb, List, [], ◌∷◌, ◌++◌, Ok, Err, Result, sym, ap, ◌∙◌, arith}
use Rattle.std.proofs.lemmas.Bool.{lt-ltb, le-ltb, ltb-false, eq-eqb, ne_eqb, eqb-true, not_from_true, not_from_false, not-false, cond-true, cond-false}
use Rattle.levels.specs.declared.faults.Defect.{Defect}
use Rattle.levels.specs.declared.faults.Fault.{Fault}
use Rattle.levels.specs.declared.faults.Fault.TheVariants.{Unsound}
use Rattle.levels.specs.Rows.{Row, answer}
use Rattle.levels.proofs.Rows.{first_passed}
use Rattle.bits.specs.Search.{first_place}
use Rattle.bits.proofs.Search.{first_before}
use Rattle.keys.specs.Sound.{place_row, number_row}

stops : (r : Row) (rows : List Row) → r.applies ≡ true → Err r.fault ≡ answer (r ∷ rows)
stops r rows e = sym (cond-true r.applies (Err r.fault) (answer rows) e)

goes_on : (r : Row) (rows : List Row) (x : Result (Unit {0}) Fault) → r.applies ≡ false → x ≡ answer rows → x ≡ answer (r ∷ rows)
goes_on r rows x e h = h ∙ sym (cond-false r.applies (Err r.fault) (answer rows) e)

-- a test of places, by the number that was found
module _ (n at : ℕ) (bad : ℕ → Bool) (defect : ℕ → Defect) (rows : List Row) (is : at ≡ first_place n bad) where
  pub place_stops : at < n → Err (Unsound (defect at)) ≡ answer (place_row n bad defect ∷ rows)
  place_stops l =
      ap (λ k. Err (Unsound (defect k))) is
      ∙ stops (place_row n bad defect) rows (lt-ltb (first_place n bad) n (omega arith))

  pub place_passes : (x : Result (Unit {0}) Fault) → n ≤ at → x ≡ answer rows → x ≡ answer (place_row n bad defect ∷ rows)
  place_passes x l = goes_on (place_row n bad defect) rows x (le-ltb (first_place n bad) n (omega arith))

-- a test by a number
module _ (is should found : ℕ) (defect : ℕ → Defect) (rows : List Row) (e : found ≡ is) where
  pub number_stops : (found ≡ should → ⊥) → Err (Unsound (defect found)) ≡ answer (number_row is should defect ∷ rows)
  number_stops d =
      ap (λ k. Err (Unsound (defect k))) e
      ∙ stops (number_row is should defect) rows (not_from_false (eqb is should) (ne_eqb is should (λ q. d (e ∙ q))))

  pub number_passes : (x : Result (Unit {0}) Fault) → found ≡ should → x ≡ answer rows → x ≡ answer (number_row is should defect ∷ rows)
  number_passes x q = goes_on (number_row is should defect) rows x (not_from_true (eqb is should) (eq-eqb is should (sym e ∙ q)))

-- rows after rows
pub rows_pass : (a b : List Row) (x : Result (Unit {0}) Fault) → answer a ≡ Ok tt → x ≡ answer b → x ≡ answer (a ++ b)
rows_pass [] b x e h = h
rows_pass (r ∷ a) b x e h =
    let p = first_passed r a tt tt e in
    goes_on r (a ++ b) x p.0 (rows_pass a b x p.1 h)

pub rows_stop : (a b : List Row) (f : Fault) → answer a ≡ Err f → Err f ≡ answer (a ++ b)
rows_stop [] b f e = let z : ◌≡◌ {A = ℕ} 0 1 = cc in absurd (omega arith)
rows_stop (r ∷ a) b f e = at r.applies (rows_stop a b f) e where
  at : (t : Bool) → (answer a ≡ Err f → Err f ≡ answer (a ++ b)) → cond t (Err r.fault) (answer a) ≡ Err f → Err f ≡ cond t (Err r.fault) (answer (a ++ b))
  at true h q = sym q
  at false h q = h q

-- what a passed test says
pub place_passed :
    (n : ℕ) (bad : ℕ → Bool) (defect : ℕ → Defect) (rows : List Row) → answer (place_row n bad defect ∷ rows) ≡ Ok tt
    → ((j : ℕ) → j < n → bad j ≡ false) × (answer rows ≡ Ok tt)
place_passed n bad defect rows e =
    let p = first_passed (place_row n bad defect) rows tt tt e in
    let l : n ≤ first_place n bad = ltb-false (first_place n bad) n p.0 in
    (λ j m. first_before n bad j (omega arith), p.1)

pub number_passed :
    (is should : ℕ) (defect : ℕ → Defect) (rows : List Row) → answer (number_row is should defect ∷ rows) ≡ Ok tt
    → (is ≡ should) × (answer rows ≡ Ok tt)
number_passed is should defect rows e =
    let p = first_passed (number_row is should defect) rows tt tt e in
    (eqb-true is should (not-false (eqb is should) p.0), p.1)
