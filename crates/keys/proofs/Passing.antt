-- The tests of a make, part by part.
use Rattle.std.proofs.Common.{◌≡◌, ℕ, ◌%◌, ◌≤◌, not, ◌||◌, eqb, ltb, List, [], ◌∷◌, Ok, Err, Result, sym, ap, ◌∙◌, subst, arith}
use Rattle.levels.specs.declared.Level.{Level}
use Rattle.levels.specs.declared.Sizes.{Sizes}
use Rattle.levels.specs.declared.checks.WorkLengths.{WorkLengths}
use Rattle.levels.specs.declared.faults.Fault.{Fault}
use Rattle.levels.specs.declared.faults.Fault.TheVariants.{WrongLength, ShortWork}
use Rattle.levels.specs.Table.{sizes_of}
use Rattle.levels.specs.Rows.{Row, row, answer, length_row}
use Rattle.levels.proofs.Rows.{first_passed, length_passed, bound_passed, last_passed, first_refused}
use Rattle.keys.specs.declared.checks.Lengths.{Lengths}
use Rattle.keys.specs.Calls.{size_rows, checked_at}

-- a row that answers for the sizes answers for the level
pub refused_at :
    (lv : Result Level Fault) (l : Level) (s : Sizes) (b : Lengths) (w : WorkLengths) (f : Fault) → lv ≡ Ok l → s ≡ sizes_of l
    → answer (size_rows s b w) ≡ Err f → Err f ≡ checked_at lv b w
refused_at lv l s b w f e q h =
    let h' : answer (size_rows (sizes_of l) b w) ≡ Err f = ap (λ x. answer (size_rows x b w)) (sym q) ∙ h in
    sym (ap (λ x. checked_at x b w) e ∙ first_refused (size_rows (sizes_of l) b w) tt l f h')

-- what the tests of a make leave true
pub record Fits (l : Level) (b : Lengths) (w : WorkLengths) : Type 0 where
  pub code : b.code_seed ≡ 32
  pub decoy : b.decoy_seed ≡ 32
  pub public : b.public_key ≡ (sizes_of l).public_key
  pub secret : b.secret_key ≡ (sizes_of l).secret_key
  pub bytes : (sizes_of l).work_bytes ≤ w.bytes
  pub places : (sizes_of l).work_places ≤ w.places
  pub positions : (sizes_of l).work_places ≤ w.positions

-- the level that passes is the one that was named
pub named : (lv : Result Level Fault) (l : Level) (b : Lengths) (w : WorkLengths) → checked_at lv b w ≡ Ok l → lv ≡ Ok l
named (Err f) l b w e = let z : ◌≡◌ {A = ℕ} 0 1 = cc in absurd (omega arith)
named (Ok k) l b w e = ap Ok (sym (last_passed (size_rows (sizes_of k) b w) k l e))

pub fits : (lv : Result Level Fault) (l : Level) (b : Lengths) (w : WorkLengths) → checked_at lv b w ≡ Ok l → Fits l b w
fits (Err f) l b w e = let z : ◌≡◌ {A = ℕ} 0 1 = cc in absurd (omega arith)
fits (Ok k) l b w e =
    let x = sizes_of k in
    let r₇ : List Row = row (ltb w.positions x.work_places) (ShortWork 2) ∷ [] in
    let r₆ : List Row = row (ltb w.places x.work_places) (ShortWork 1) ∷ r₇ in
    let r₅ : List Row = row (ltb w.bytes x.work_bytes) (ShortWork 0) ∷ r₆ in
    let r₄ : List Row = length_row 4 b.secret_key x.secret_key ∷ r₅ in
    let r₃ : List Row = length_row 3 b.public_key x.public_key ∷ r₄ in
    let r₂ : List Row = length_row 2 b.decoy_seed 32 ∷ r₃ in
    let seeds : Row = row (not (eqb (b.mixing_seeds % 32) 0) || ltb 2048 b.mixing_seeds) (WrongLength 1) in
    let p₀ = length_passed 0 b.code_seed 32 (seeds ∷ r₂) k l e in
    let p₁ = first_passed seeds r₂ k l p₀.1 in
    let p₂ = length_passed 2 b.decoy_seed 32 r₃ k l p₁.1 in
    let p₃ = length_passed 3 b.public_key x.public_key r₄ k l p₂.1 in
    let p₄ = length_passed 4 b.secret_key x.secret_key r₅ k l p₃.1 in
    let p₅ = bound_passed w.bytes x.work_bytes (ShortWork 0) r₆ k l p₄.1 in
    let p₆ = bound_passed w.places x.work_places (ShortWork 1) r₇ k l p₅.1 in
    let p₇ = bound_passed w.positions x.work_places (ShortWork 2) [] k l p₆.1 in
    let P : Level → Type 0 = λ y. Fits y b w in
    subst P (sym (last_passed [] k l p₇.1)) (record {
      code = p₀.0;
      decoy = p₂.0;
      public = p₃.0;
      secret = p₄.0;
      bytes = p₅.0;
      places = p₆.0;
      positions = p₇.0;
    })
