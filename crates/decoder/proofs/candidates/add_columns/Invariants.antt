use Rattle.std.proofs.Common.{◌≡◌, ℕ, ◌<◌, length}
use Rattle.bits.specs.Packed.{vector}
use Rattle.polys.specs.Coefs.{coefs, Placed}
use Rattle.decoder.specs.Sums.{column_sum}
use Rattle.decoder.proofs.candidates.add_columns.Given as goal

abbrev pub invariant-loop-j : goal.invariant-loop-j
invariant-loop-j g l =
    ((r : ℕ) → r < length l.initial.sum → coefs g.F.Field.places l.sum r ≡ column_sum g.F.Field.ops g.F.Field.places (length l.initial.sum) l.code.g.now l.code.support.now l.j (vector l.e) r)
    × Placed g.F.Field.BITS l.sum
