use Rattle.std.proofs.Common.{◌*◌}
use Rattle.matrices.proofs.Additions.{AddedTo}
use Rattle.matrices.proofs.add_bytes.Given as goal

abbrev pub invariant-loop-i : goal.invariant-loop-i
invariant-loop-i l = AddedTo (16 * l.i) l.initial.into l.from l.into
