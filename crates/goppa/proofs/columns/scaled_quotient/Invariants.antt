use Rattle.std.proofs.Common.{◌≡◌, ℕ, ◌+◌, ◌<◌, ◌≤◌, length, get_or, drop}
use Rattle.polys.specs.Values.{value}
use Rattle.goppa.proofs.columns.scaled_quotient.Given as goal

abbrev pub invariant-loop-r : goal.invariant-loop-r
invariant-loop-r g l =
    (l.q ≡ value g.F.Field.ops g.F.Field.places (drop (l.r + 1) l.g) l.a)
    × ((j : ℕ) → l.r ≤ j → j < length l.initial.out → get_or l.out j 0 ≡ g.F.Field.places.num (g.F.Field.ops.mul l.e (value g.F.Field.ops g.F.Field.places (drop (j + 1) l.g) l.a)))
