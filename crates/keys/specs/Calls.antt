-- What the call `make` answers, and what it leaves.
use Rattle.std.specs.Prelude.{ℕ, ◌%◌, not, ◌||◌, List, [], ◌∷◌, length, Ok, Err, Result, ◌==◌, nat_lt}
use Rattle.levels.specs.declared.Level.{Level}
use Rattle.levels.specs.declared.Sizes.{Sizes}
use Rattle.levels.specs.declared.checks.WorkLengths.{WorkLengths}
use Rattle.levels.specs.declared.faults.Fault.{Fault}
use Rattle.levels.specs.declared.faults.Fault.TheVariants.{WrongLength, NoUsableSeed}
use Rattle.levels.specs.Table.{sizes_of}
use Rattle.levels.specs.Rows.{Row, row, first_of, answer, length_row, work_rows}
use Rattle.algebra.specs.Field.{Ops, Places}
use Rattle.keys.specs.declared.checks.Lengths.{Lengths}
use Rattle.keys.specs.Fields.{ops_of, places_of}
use Rattle.keys.specs.Seeds.{seed_of, count_of, taken_of, Pair}

-- the lengths of the buffers
abbrev pub lengths_of : (code seeds decoy public secret : List ℕ) → Lengths
lengths_of code seeds decoy public secret =
    record { code_seed = length code; mixing_seeds = length seeds; decoy_seed = length decoy; public_key = length public; secret_key = length secret }

-- the rows that lengths decide, in their order; a list has 0 to 64 whole seeds
abbrev pub size_rows : Sizes → Lengths → WorkLengths → List Row
size_rows s b w =
    length_row 0 b.code_seed 32
    ∷ row (not (b.mixing_seeds % 32 == 0) || nat_lt 2048 b.mixing_seeds) (WrongLength 1)
    ∷ length_row 2 b.decoy_seed 32
    ∷ length_row 3 b.public_key s.public_key
    ∷ length_row 4 b.secret_key s.secret_key
    ∷ work_rows s w

-- the level, or the fault of the first of these rows that applies
abbrev pub checked_at : Result Level Fault → Lengths → WorkLengths → Result Level Fault
checked_at (Ok l) b w = first_of (size_rows (sizes_of l) b w) l
checked_at (Err f) b w = Err f

-- no mixing seed of the list is usable; the place is the number of seeds, which all were tried
abbrev pub seed_row : {A : Type 0} {m : ℕ} → Ops A → Places A m → Sizes → (code seeds : List ℕ) → Row
seed_row f pl s code seeds = row (taken_of f pl s code seeds == count_of seeds) (NoUsableSeed (count_of seeds))

-- the answer at the level that was found
abbrev pub tried_at : Result Level Fault → (code seeds : List ℕ) → Result (Unit {0}) Fault
tried_at (Ok l) code seeds = answer (seed_row (ops_of l) (places_of l) (sizes_of l) code seeds ∷ [])
tried_at (Err f) code seeds = Err f

-- the pair of the first usable seed
abbrev pub Made : {A : Type 0} {m : ℕ} → Ops A → Places A m → Sizes → (code seeds decoy public secret : List ℕ) → Type 0
Made f pl s code seeds decoy public secret = Pair f pl s code (seed_of seeds (taken_of f pl s code seeds)) decoy public secret

-- an accepted make at the level that was named
abbrev pub MadeAt : Result Level Fault → (code seeds decoy public secret : List ℕ) → Type 0
MadeAt (Ok l) code seeds decoy public secret = Made (ops_of l) (places_of l) (sizes_of l) code seeds decoy public secret
MadeAt (Err f) code seeds decoy public secret = ⊥
