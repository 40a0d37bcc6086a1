-- What a program's seal answers.
use Rattle.std.specs.Prelude.{◌≡◌, ⊤, ℕ, Err, Result}
use Rattle.levels.specs.declared.Level.{Level}
use Rattle.levels.specs.declared.checks.WorkLengths.{WorkLengths}
use Rattle.levels.specs.declared.faults.Fault.{Fault}
use Rattle.sealing.specs.Calls.{checked_at, accepted}
use Rattle.tasks.specs.declared.failures.Failure.{Failure}
use Rattle.tasks.specs.declared.failures.Failure.TheVariants.{Refused, NoMemory}

-- the answer of a seal into a ticket of this length and a key of 32 bytes, with a hash of the library
abbrev pub seal_answer : Result Level Fault → (public seed ticket : ℕ) → WorkLengths → Result (Unit {0}) Fault
seal_answer level public seed ticket work =
    accepted (checked_at level (record { public_key = public; ticket_seed = seed; ticket = ticket; key = 32 }) work 65536)

-- a refusal is the one that was answered; of memory that runs out nothing is said
abbrev pub RefusedBy : Result (Unit {0}) Fault → Failure → Type 0
RefusedBy answer (Refused fault) = answer ≡ Err fault
RefusedBy answer (NoMemory error) = ⊤
