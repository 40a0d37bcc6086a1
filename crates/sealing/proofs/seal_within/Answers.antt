use Rattle.std.proofs.Common.{◌≡◌, ℕ, List, Ok, sym, ap, ap₂, subst, ◌∙◌}
use Rattle.levels.specs.declared.checks.WorkLengths.{WorkLengths}
use Rattle.levels.specs.Rows.{work_of}
use Rattle.levels.specs.Names.{level_of}
use Rattle.sealing.specs.declared.Lengths.{Lengths}
use Rattle.sealing.specs.Calls.{checked_at, accepted, lengths_of, Sealed}
use Rattle.sealing.proofs.Checks.{fits, sealed_at}
use Rattle.sealing.proofs.seal_within.Goals as goal

pub seal_checked-requires : goal.seal_checked-requires
seal_checked-requires g c =
    let b : Lengths = lengths_of c.args.public_key.now c.args.ticket_seed.now c.args.ticket.now c.args.key.now in
    let w : WorkLengths = work_of c.args.work.now.bytes.now c.args.work.now.places.now c.args.work.now.positions.now in
    let n = g.H.Hash.capacity c.args.hash.now in
    let e : checked_at (level_of c.args.level.now) b w n ≡ Ok c.in_ok-sizes.sizes =
    ap₂ (λ v k. checked_at (level_of c.args.level.now) b v k) (sym c.lengths.ensures) (sym c.capacity.ensures) ∙ (sym c.check.ensures ∙ c.in_ok-sizes.was) in
    let f = fits (level_of c.args.level.now) c.in_ok-sizes.sizes b w n e in
    record {
      input = f.public;
      outputs = (f.ticket, f.key);
      work = (f.bytes, f.positions);
      capacity = f.hash;
    }

pub returns : goal.returns
returns g c =
    let b : Lengths = lengths_of c.args.public_key.now c.args.ticket_seed.now c.args.ticket.now c.args.key.now in
    let w : WorkLengths = work_of c.args.work.now.bytes.now c.args.work.now.places.now c.args.work.now.positions.now in
    let n = g.H.Hash.capacity c.args.hash.now in
    let e : checked_at (level_of c.args.level.now) b w n ≡ Ok c.in_ok-sizes.sizes =
    ap₂ (λ v k. checked_at (level_of c.args.level.now) b v k) (sym c.lengths.ensures) (sym c.capacity.ensures) ∙ (sym c.check.ensures ∙ c.in_ok-sizes.was) in
    record {
      answer = sym (ap accepted e);
      gives = (
        sealed_at (level_of c.args.level.now) c.in_ok-sizes.sizes b w n (g.H.Hash.rule c.args.hash.now) c.args.public_key.now
            c.args.ticket_seed.now c.seal_checked.new.ticket c.seal_checked.new.key e
            (subst (λ (x : List ℕ). Sealed c.in_ok-sizes.sizes (g.H.Hash.rule c.args.hash.now) c.args.public_key.now x c.seal_checked.new.ticket c.seal_checked.new.key)
            c.in-Some.ensures.cases.same c.seal_checked.ensures.sealed),
        c.seal_checked.ensures.restarted.fresh,
        c.seal_checked.ensures.restarted.ruled,
      );
      same = c.seal_checked.ensures.restarted.same;
      kept = c.seal_checked.ensures.restarted.kept;
      lengths = c.seal_checked.ensures.lengths;
    }
