use Rattle.std.proofs.Common.{◌≡◌, ℕ, ◌+◌, ◌*◌, ◌<◌, ◌≤◌, get_or}
use Rattle.decoding.proofs.roots.every_other_root.Given as goal

abbrev pub invariant-loop-j : goal.invariant-loop-j
invariant-loop-j g l =
    ((i : ℕ) → i < l.j → g.F.Field.ops.mul (g.F.Field.places.at (get_or l.out i 0)) (g.F.Field.places.at (get_or l.out i 0)) ≡ g.F.Field.places.at (get_or l.p (2 * i + l.start) 0))
    × ((i : ℕ) → l.j ≤ i → get_or l.out i 0 ≡ 0)
