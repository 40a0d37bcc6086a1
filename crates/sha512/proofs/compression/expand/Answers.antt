use Rattle.std.proofs.Common.{◌≡◌, ◌+◌, ◌-◌, take, set, sym, refl, ap, ◌∙◌, arith}
use Rattle.std.proofs.lemmas.List.{length-set, take_all}
use Rattle.sha512.specs.Sha512.{schedule}
use Rattle.sha512.proofs.Schedules.{schedule_more}
use Rattle.sha512.proofs.compression.expand.Goals as goal

pub loop-t-init : goal.loop-t-init
unfolding schedule
loop-t-init c = (omega arith, refl)

pub loop-t-preserved : goal.loop-t-preserved
loop-t-preserved c = (
  length-set c.loop-t.w c.loop-t.t c.next_word.result ∙ c.loop-t.invariant.0,
  ap (λ x. take (c.loop-t.t + 1) (set c.loop-t.w c.loop-t.t x)) c.next_word.ensures
      ∙ schedule_more (take 16 c.args.w.now) c.loop-t.w c.loop-t.t (omega arith) (omega arith) c.loop-t.invariant.1,
)

pub returns : goal.returns
returns c =
    let e : c.loop-t.t - 16 ≡ 64 = omega arith in
    sym (take_all c.loop-t.t c.loop-t.w (omega arith)) ∙ c.loop-t.invariant.1 ∙ ap (schedule (take 16 c.args.w.now)) e
