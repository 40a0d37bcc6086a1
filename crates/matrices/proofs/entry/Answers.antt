use Rattle.std.proofs.Common.{◌*◌, ◌∙◌}
use Rattle.std.proofs.lemmas.List.{take_rest}
use Rattle.matrices.proofs.Rows.{entry_is}
use Rattle.matrices.proofs.entry.Goals as goal

pub returns : goal.returns
returns c =
    c.bit.ensures
    ∙ rw (take_rest c.args.m.now (c.args.row * c.args.width)) (entry_is c.args.width c.args.row c.args.col c.args.m.now)
