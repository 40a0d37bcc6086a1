use Rattle.bits.proofs.Places.{bit_added}
use Rattle.bits.proofs.add_bit.Goals as goal

pub returns : goal.returns
returns c = bit_added c.args.j c.args.b c.power.result c.args.v.now c.requires c.power.ensures.value
