use Rattle.keys.proofs.AtLevels.{no_sample, at_sample, at_large}
use Rattle.keys.proofs.make_at.Goals as goal

pub returns-in-Sample : goal.returns-in-Sample
returns-in-Sample c =
    let h =
    at_sample c.make_with.result c.args.seeds.now.code.now c.args.seeds.now.mixing.now c.args.seeds.now.decoy.now c.make_with.new.public_key c.make_with.new.secret_key _
    c.args.level c.sizes-sizes.result c.in-Sample.is c.sizes-sizes.ensures.table
    (record { answer = c.make_with.ensures.answer; gives = c.make_with.ensures.gives }) in
    record { answer = h.answer; gives = h.gives; lengths = c.make_with.ensures.kept }

pub returns-in-Level128 : goal.returns-in-Level128
returns-in-Level128 c =
    let h =
    at_large c.make_with-in-Level128.result c.args.seeds.now.code.now c.args.seeds.now.mixing.now c.args.seeds.now.decoy.now c.make_with-in-Level128.new.public_key c.make_with-in-Level128.new.secret_key _
    c.args.level c.sizes-sizes.result (no_sample c.args.level c.in-Level128.is) c.sizes-sizes.ensures.table
    (record { answer = c.make_with-in-Level128.ensures.answer; gives = c.make_with-in-Level128.ensures.gives }) in
    record { answer = h.answer; gives = h.gives; lengths = c.make_with-in-Level128.ensures.kept }
