use Rattle.std.proofs.Common.{refl, arith}
use Rattle.matrices.proofs.Entries.{entry_added}
use Rattle.matrices.proofs.columns.add_entry.Goals as goal

pub returns : goal.returns
returns c = entry_added c.args.width c.args.row c.args.col _ c.args.b c.args.m.now c.add_bit.new.v c.requires.1 c.requires.0 refl (omega arith) c.add_bit.ensures
