use Rattle.std.proofs.Common.{rules, reverse, ap, ◌∙◌}
use Rattle.std.specs.List.{fold}
use borrow.Author.Tests.{tests}
use Rattle.std.proofs.lemmas.Iterator.Adapters.{YieldsList-from_rev_slice}
use Rattle.std.proofs.lemmas.Iterator.Consumers.{fold_from_yields_List}
use Rattle.polys.proofs.Points.{horner_value}
use Rattle.polys.proofs.values.value_at.Goals as goal

pub returns : goal.returns
returns g c =
    let f = g.F.Field.ops in
    let pl = g.F.Field.places in
    fold_from_yields_List _ (λ v a. f.add (pl.at a) (f.mul c.args.x v)) _ _ c.fold.ensures.ran (YieldsList-from_rev_slice c.args.p.now (cc)) (λ v a r q k. search (rules, tests))
    ∙ ap (λ z. fold (λ v a. f.add (pl.at a) (f.mul c.args.x v)) z (reverse c.args.p.now)) c.zero.ensures
    ∙ horner_value f pl c.args.x c.args.p.now
