-- The tests of a seal, part by part.
use Rattle.std.proofs.Common.{◌≡◌, ℕ, ◌≤◌, ltb, List, [], ◌∷◌, Ok, Err, Result, sym, subst, arith}
use Rattle.levels.specs.declared.Level.{Level}
use Rattle.levels.specs.declared.Sizes.{Sizes}
use Rattle.levels.specs.declared.checks.WorkLengths.{WorkLengths}
use Rattle.levels.specs.declared.faults.Fault.{Fault}
use Rattle.levels.specs.declared.faults.Fault.TheVariants.{ShortWork, SmallCapacity}
use Rattle.levels.specs.Table.{sizes_of, Lawful}
use Rattle.levels.specs.Rows.{Row, row, length_row, capacity_row}
use Rattle.levels.proofs.Rows.{last_passed, length_passed, bound_passed}
use Rattle.levels.proofs.Table.{lawful}
use Rattle.sealing.specs.declared.Lengths.{Lengths}
use Rattle.sealing.specs.Tickets.{Rule}
use Rattle.sealing.specs.Calls.{seal_rows, checked_at, Sealed, SealedAt}

-- what the tests of a seal leave true
pub record Fits (s : Sizes) (b : Lengths) (w : WorkLengths) (capacity : ℕ) : Type 0 where
  pub lawful : Lawful s
  pub public : b.public_key ≡ s.public_key
  pub seed : b.ticket_seed ≡ 32
  pub ticket : b.ticket ≡ s.ticket
  pub key : b.key ≡ 32
  pub bytes : s.work_bytes ≤ w.bytes
  pub positions : s.work_places ≤ w.positions
  pub hash : s.capacity ≤ capacity

pub fits :
    (lv : Result Level Fault) (s : Sizes) (b : Lengths) (w : WorkLengths) (n : ℕ) → checked_at lv b w n ≡ Ok s → Fits s b w n
fits (Err f) s b w n e = let z : ◌≡◌ {A = ℕ} 0 1 = cc in absurd (omega arith)
fits (Ok l) s b w n e =
    let x = sizes_of l in
    let r₇ : List Row = capacity_row x n ∷ [] in
    let r₆ : List Row = row (ltb w.positions x.work_places) (ShortWork 2) ∷ r₇ in
    let r₅ : List Row = row (ltb w.places x.work_places) (ShortWork 1) ∷ r₆ in
    let r₄ : List Row = row (ltb w.bytes x.work_bytes) (ShortWork 0) ∷ r₅ in
    let r₃ : List Row = length_row 3 b.key 32 ∷ r₄ in
    let r₂ : List Row = length_row 2 b.ticket x.ticket ∷ r₃ in
    let r₁ : List Row = length_row 1 b.ticket_seed 32 ∷ r₂ in
    let p₀ = length_passed 0 b.public_key x.public_key r₁ x s e in
    let p₁ = length_passed 1 b.ticket_seed 32 r₂ x s p₀.1 in
    let p₂ = length_passed 2 b.ticket x.ticket r₃ x s p₁.1 in
    let p₃ = length_passed 3 b.key 32 r₄ x s p₂.1 in
    let p₄ = bound_passed w.bytes x.work_bytes (ShortWork 0) r₅ x s p₃.1 in
    let p₅ = bound_passed w.places x.work_places (ShortWork 1) r₆ x s p₄.1 in
    let p₆ = bound_passed w.positions x.work_places (ShortWork 2) r₇ x s p₅.1 in
    let p₇ = bound_passed n x.capacity SmallCapacity [] x s p₆.1 in
    let P : Sizes → Type 0 = λ y. Fits y b w n in
    subst P (sym (last_passed [] x s p₇.1)) (record {
      lawful = lawful x;
      public = p₀.0;
      seed = p₁.0;
      ticket = p₂.0;
      key = p₃.0;
      bytes = p₄.0;
      positions = p₆.0;
      hash = p₇.0;
    })

-- the sizes are those of the level
pub sealed_at :
    (lv : Result Level Fault) (s : Sizes) (b : Lengths) (w : WorkLengths) (n : ℕ) (rule : Rule) (public seed ticket key : List ℕ)
    → checked_at lv b w n ≡ Ok s → Sealed s rule public seed ticket key → SealedAt lv rule public seed ticket key
sealed_at (Err f) s b w n rule public seed ticket key e h = let z : ◌≡◌ {A = ℕ} 0 1 = cc in absurd (omega arith)
sealed_at (Ok l) s b w n rule public seed ticket key e h =
    let P : Sizes → Type 0 = λ y. Sealed y rule public seed ticket key in
    subst P (last_passed (seal_rows (sizes_of l) b w n) (sizes_of l) s e) h
