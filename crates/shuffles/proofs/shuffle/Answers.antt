use Rattle.std.proofs.Common.{◌≡◌, count_by, ap, ◌∙◌, rules}
use Rattle.shuffles.specs.Shuffle.{shuffled}
use Rattle.shuffles.proofs.Shuffles.{keeps}
use Rattle.shuffles.proofs.shuffle.Goals as goal

pub returns : goal.returns
returns g c =
    let e : c.loop-i.items ≡ shuffled c.args.seed.now c.args.items.now = search rules in
    record { after = e; keeps = λ p. ap (count_by p) e ∙ keeps c.args.seed.now c.args.items.now p }
