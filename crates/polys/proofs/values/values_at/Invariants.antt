use Rattle.std.proofs.Common.{◌≡◌, ℕ, ◌<◌, ◌≤◌, length, get_or, map}
use Rattle.polys.proofs.Points.{horner}
use Rattle.polys.proofs.values.values_at.Given as goal

abbrev pub invariant-loop-c : goal.invariant-loop-c
invariant-loop-c g l =
    ((j : ℕ) → j < length l.points → get_or l.values j 0 ≡ g.F.Field.places.num (horner g.F.Field.ops g.F.Field.places (g.F.Field.places.at (get_or l.points j 0)) (map (λ y. y.now) l.yielded)))
    × ((j : ℕ) → length l.points ≤ j → get_or l.values j 0 ≡ 0)
