use Rattle.std.proofs.Common.{rules, ◌≡◌, ℕ, ◌<◌, [], ◌∷◌, ◌++◌, length, get_or, map, replicate, sym, ap, ap₂, ◌∙◌}
use Rattle.std.proofs.lemmas.List.{map_push}
use Rattle.std.proofs.lemmas.List.Sums.{fold_push}
use Rattle.std.proofs.lemmas.Iterator.Adapters.{YieldsList-from_rev_slice}
use Rattle.std.proofs.lemmas.Iterator.Consumers.{YieldsList-end}
use Rattle.polys.proofs.Lists.{get_d_zeros}
use Rattle.polys.proofs.Points.{horner, horner_value, num_zero}
use Rattle.polys.proofs.values.values_at.Goals as goal

pub loop-c-init : goal.loop-c-init
loop-c-init g c =
    let zeros : c.fill.new.self ≡ replicate (length c.args.values.now) 0 = search rules in
    let none : (j : ℕ) → get_or c.fill.new.self j 0 ≡ 0 = λ j. ap (λ l. get_or l j 0) zeros ∙ get_d_zeros (length c.args.values.now) j in
    (λ j h. none j ∙ sym (num_zero g.F.Field.ops g.F.Field.places g.met.F.Field.origin), λ j h. none j)

pub loop-c-preserved : goal.loop-c-preserved
loop-c-preserved g c = (more, λ j h. c.horner_steps.ensures.rest j h ∙ c.loop-c.invariant.1 j h) where
  more : (j : ℕ) → j < length c.args.points.now → get_or c.horner_steps.new.values j 0 ≡ g.F.Field.places.num (horner g.F.Field.ops g.F.Field.places (g.F.Field.places.at (get_or c.args.points.now j 0)) (map (λ y. y.now) (c.loop-c.yielded ++ c.in-Some.field-0 ∷ [])))
  more j h =
      let f = g.F.Field.ops in
      let pl = g.F.Field.places in
      let x = pl.at (get_or c.args.points.now j 0) in
      let so_far = map (λ y. y.now) c.loop-c.yielded in
      c.horner_steps.ensures.step j h
      ∙ ap pl.num (
      ap₂ (λ a v. f.add a (f.mul x v)) c.read.ensures (ap pl.at (c.loop-c.invariant.0 j h) ∙ pl.at_num (horner f pl x so_far))
      ∙ sym (ap (horner f pl x) (map_push (λ y. y.now) c.loop-c.yielded c.in-Some.field-0) ∙ fold_push (λ v a. f.add (pl.at a) (f.mul x v)) f.zero so_far c.in-Some.field-0.now)
      )

pub returns : goal.returns
returns g c =
    let f = g.F.Field.ops in
    let pl = g.F.Field.places in
    let all = YieldsList-end (YieldsList-from_rev_slice c.args.p.now (cc)) c.loop-c.yielded _ c.loop-c.yielded_by _ _ c.in-None.is c.next.ensures.steps in
    record {
      each = λ j h. c.loop-c.invariant.0 j h
          ∙ ap (λ xs. pl.num (horner f pl (pl.at (get_or c.args.points.now j 0)) xs)) all.0
          ∙ ap pl.num (horner_value f pl (pl.at (get_or c.args.points.now j 0)) c.args.p.now);
      rest = c.loop-c.invariant.1;
    }
