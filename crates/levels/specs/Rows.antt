-- The rows of a call's table of refusals: what each tests, and the fault that it answers with.
use Rattle.std.specs.Prelude.{ℕ, Bool, cond, not, List, [], ◌∷◌, length, Ok, Err, Result, ◌==◌, nat_lt}
use Rattle.levels.specs.declared.Sizes.{Sizes}
use Rattle.levels.specs.declared.checks.WorkLengths.{WorkLengths}
use Rattle.levels.specs.declared.faults.Fault.{Fault}
use Rattle.levels.specs.declared.faults.Fault.TheVariants.{WrongLength, ShortWork, SmallCapacity}

-- whether a row applies, and its fault
pub record Row : Type 0 where
  pub applies : Bool
  pub fault : Fault

abbrev pub row : Bool → Fault → Row
row applies fault = record { applies = applies; fault = fault }

-- the first row from the top that applies answers
abbrev pub first_of : {X : Type 0} → List Row → X → Result X Fault
first_of [] x = Ok x
first_of (r ∷ rows) x = cond r.applies (Err r.fault) (first_of rows x)

-- the answer of tests that give nothing but acceptance
abbrev pub answer : List Row → Result (Unit {0}) Fault
answer rows = first_of rows tt

-- a buffer has not the length that it should have
abbrev pub length_row : ℕ → ℕ → ℕ → Row
length_row buffer is should = row (not (is == should)) (WrongLength buffer)

-- the lengths of the three lent slices
abbrev pub work_of : List ℕ → List ℕ → List ℕ → WorkLengths
work_of bytes places positions = record { bytes = length bytes; places = length places; positions = length positions }

-- a work slice is too short: 0 the bytes, 1 the elements, 2 the positions
abbrev pub short_rows : WorkLengths → WorkLengths → List Row
short_rows least w =
    row (nat_lt w.bytes least.bytes) (ShortWork 0)
    ∷ row (nat_lt w.places least.places) (ShortWork 1)
    ∷ row (nat_lt w.positions least.positions) (ShortWork 2) ∷ []

-- what a level needs of the work memory
abbrev pub work_of_level : Sizes → WorkLengths
work_of_level s = record { bytes = s.work_bytes; places = s.work_places; positions = s.work_places }

abbrev pub work_rows : Sizes → WorkLengths → List Row
work_rows s w = short_rows (work_of_level s) w

-- the hash takes too little
abbrev pub small_row : ℕ → ℕ → Row
small_row least capacity = row (nat_lt capacity least) SmallCapacity

abbrev pub capacity_row : Sizes → ℕ → Row
capacity_row s capacity = small_row s.capacity capacity
