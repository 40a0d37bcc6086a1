use Rattle.std.proofs.Common.{◌≡◌, ℕ, List, Ok, Result, sym, ap, ap₂, ◌∙◌, subst}
use Rattle.levels.specs.declared.Level.{Level}
use Rattle.levels.specs.declared.checks.WorkLengths.{WorkLengths}
use Rattle.levels.specs.declared.faults.Fault.{Fault}
use Rattle.levels.specs.Names.{level_of}
use Rattle.levels.specs.Rows.{work_of}
use Rattle.keys.specs.declared.checks.Lengths.{Lengths}
use Rattle.keys.specs.Calls.{lengths_of, checked_at, tried_at, MadeAt}
use Rattle.keys.proofs.AtLevels.{Given}
use Rattle.keys.proofs.Passing.{named, fits}
use Rattle.keys.proofs.make_within.Goals as goal

pub make_at-requires : goal.make_at-requires
make_at-requires c =
    let b : Lengths = lengths_of c.args.code_seed.now c.args.mixing_seeds.now c.args.decoy_seed.now c.args.public_key.now c.args.secret_key.now in
    let w : WorkLengths = work_of c.args.work.now.bytes.now c.args.work.now.places.now c.args.work.now.positions.now in
    let e : checked_at (level_of c.args.level.now) b w ≡ Ok c.in_ok-level.level =
    ap (checked_at (level_of c.args.level.now) b) (sym c.lengths.ensures) ∙ (sym c.check.ensures ∙ c.in_ok-level.was) in
    let f = fits (level_of c.args.level.now) c.in_ok-level.level b w e in
    record { work = (f.bytes, (f.places, f.positions)); keys = (f.public, f.secret) }

pub returns : goal.returns
returns c =
    let b : Lengths = lengths_of c.args.code_seed.now c.args.mixing_seeds.now c.args.decoy_seed.now c.args.public_key.now c.args.secret_key.now in
    let w : WorkLengths = work_of c.args.work.now.bytes.now c.args.work.now.places.now c.args.work.now.positions.now in
    let e : checked_at (level_of c.args.level.now) b w ≡ Ok c.in_ok-level.level =
    ap (checked_at (level_of c.args.level.now) b) (sym c.lengths.ensures) ∙ (sym c.check.ensures ∙ c.in_ok-level.was) in
    let ec = c.in-Some.ensures.cases.same in
    let ed = c.in-Some-as_array.ensures.cases.same in
    let P : Result Level Fault → List ℕ → List ℕ → Type 0 =
    λ lv code decoy. Given c.make_at.result
    (MadeAt lv code c.args.mixing_seeds.now decoy c.make_at.new.public_key c.make_at.new.secret_key)
    ((c.make_at.new.public_key ≡ c.args.public_key.now) × (c.make_at.new.secret_key ≡ c.args.secret_key.now)) in
    record {
      answer = c.make_at.ensures.answer ∙ ap₂ (λ x (code : List ℕ). tried_at x code c.args.mixing_seeds.now) (sym e) ec;
      gives =
          subst (λ lv. P lv c.args.code_seed.now c.args.decoy_seed.now) (sym (named (level_of c.args.level.now) c.in_ok-level.level b w e))
          (subst (λ x. P (Ok c.in_ok-level.level) x c.args.decoy_seed.now) ec (subst (P (Ok c.in_ok-level.level) c.in-Some.code_seed.now) ed c.make_at.ensures.gives));
      lengths = c.make_at.ensures.lengths;
    }
