use Rattle.std.proofs.Common.{◌*◌, is_ok, ◌∙◌}
use Rattle.bits.specs.Packed.{matrix}
use Rattle.bits.proofs.Decision.{decided, reduced_decides}
use Rattle.matrices.proofs.usable.Goals as goal

pub returns : goal.returns
returns c =
    let r = 8 * c.args.front in
    let A = matrix c.args.front c.args.m.now in
    let e = c.is_ok.ensures.value in
    let h = reduced_decides r r A (matrix c.args.front c.reduce.new.m) c.reduce.result c.reduce.ensures in
    record { which = rw e h; decided = e ∙ decided r A (is_ok c.reduce.result) h }
