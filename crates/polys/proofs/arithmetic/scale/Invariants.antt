use Rattle.std.proofs.Common.{◌≡◌, ℕ, ◌<◌, ◌≤◌, get_or}
use Rattle.polys.proofs.arithmetic.scale.Given as goal

abbrev pub invariant-loop-x : goal.invariant-loop-x
invariant-loop-x g l =
    ((j : ℕ) → j < l.x-index → get_or l.p j 0 ≡ g.F.Field.places.num (g.F.Field.ops.mul l.c (g.F.Field.places.at (get_or l.initial.p j 0))))
    × ((j : ℕ) → l.x-index ≤ j → get_or l.p j 0 ≡ get_or l.initial.p j 0)
