-- What the call `seal` answers, and what it leaves.
use Rattle.std.specs.Prelude.{◌≡◌, ℕ, ◌-◌, List, [], ◌∷◌, ◌++◌, length, Ok, Err, Result}
use Rattle.levels.specs.declared.Level.{Level}
use Rattle.levels.specs.declared.Sizes.{Sizes}
use Rattle.levels.specs.declared.checks.WorkLengths.{WorkLengths}
use Rattle.levels.specs.declared.faults.Fault.{Fault}
use Rattle.levels.specs.Table.{sizes_of}
use Rattle.levels.specs.Rows.{Row, first_of, length_row, work_rows, capacity_row}
use Rattle.bits.specs.Vectors.{Vector, Matrix, weight}
use Rattle.bits.specs.Packed.{matrix}
use Rattle.shuffles.specs.Orders.{error_vector_of}
use Rattle.sealing.specs.declared.Lengths.{Lengths}
use Rattle.sealing.specs.Tickets.{Rule, Seals, key_of}

-- the rows after the level's, in their order
abbrev pub seal_rows : Sizes → Lengths → WorkLengths → ℕ → List Row
seal_rows s b w capacity =
    length_row 0 b.public_key s.public_key
    ∷ length_row 1 b.ticket_seed 32
    ∷ length_row 2 b.ticket s.ticket
    ∷ length_row 3 b.key 32
    ∷ (work_rows s w ++ (capacity_row s capacity ∷ []))

-- the level's sizes, or the fault of the first row that applies
abbrev pub checked_at : Result Level Fault → Lengths → WorkLengths → ℕ → Result Sizes Fault
checked_at (Ok l) b w capacity = first_of (seal_rows (sizes_of l) b w capacity) (sizes_of l)
checked_at (Err f) b w capacity = Err f

-- the answer of a call that gives nothing but acceptance
abbrev pub accepted : {X : Type 0} → Result X Fault → Result (Unit {0}) Fault
accepted (Ok x) = Ok tt
accepted (Err f) = Err f

-- the matrix M that a public key holds
abbrev pub public_matrix : Sizes → List ℕ → Matrix
public_matrix s key = matrix (s.vector - s.body) key

-- the vector that a ticket seed is for
abbrev pub seed_vector : Sizes → List ℕ → Vector
seed_vector s seed = error_vector_of s.n s.t seed

-- ticket and key are those of the seed's error vector, which has t ones, for the matrix in the public key
pub record Sealed (s : Sizes) (rule : Rule) (public seed ticket key : List ℕ) : Type 0 where
  pub weighs : weight s.n (seed_vector s seed) ≡ s.t
  pub seals : Seals s rule (public_matrix s public) (seed_vector s seed) ticket
  pub opens : key ≡ key_of s rule (seed_vector s seed) ticket

-- the lengths of the buffers
abbrev pub lengths_of : List ℕ → List ℕ → List ℕ → List ℕ → Lengths
lengths_of public seed ticket key =
    record { public_key = length public; ticket_seed = length seed; ticket = length ticket; key = length key }

-- an accepted seal at the level that was named
abbrev pub SealedAt : Result Level Fault → Rule → List ℕ → List ℕ → List ℕ → List ℕ → Type 0
SealedAt (Ok l) rule public seed ticket key = Sealed (sizes_of l) rule public seed ticket key
SealedAt (Err f) rule public seed ticket key = ⊥
