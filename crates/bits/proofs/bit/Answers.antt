use Rattle.std.proofs.Common.{◌/◌, ◌%◌, ◌^◌, eqb, get_or, ap, ◌∙◌}
use lib.Bits.{and_mask}
use Rattle.bits.specs.Packed.{vector, bit_of}
use Rattle.bits.proofs.bit.Goals as goal

pub returns : goal.returns
unfolding vector bit_of
returns c =
    ap (λ x. eqb x 1) (and_mask (get_or c.args.v.now (c.args.j / 8) 0 / 2 ^ c.power.result) 1)
    ∙ ap (λ p. eqb (get_or c.args.v.now (c.args.j / 8) 0 / 2 ^ p % 2) 1) c.power.ensures.value
