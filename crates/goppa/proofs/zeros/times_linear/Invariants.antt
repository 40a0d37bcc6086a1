use Rattle.std.proofs.Common.{◌≡◌, ℕ, ◌<◌, ◌≤◌, get_or}
use Rattle.polys.specs.Coefs.{poly, coefs, mono}
use Rattle.goppa.specs.Zeros.{linear}
use Rattle.goppa.proofs.zeros.times_linear.Given as goal

abbrev pub invariant-loop-x : goal.invariant-loop-x
invariant-loop-x g l =
    ((j : ℕ) → j < l.x-index → get_or l.p j 0 ≡ g.F.Field.places.num ((poly g.F.Field.ops).mul (linear g.F.Field.ops l.a) (coefs g.F.Field.places l.initial.p) j))
    × ((j : ℕ) → l.x-index ≤ j → get_or l.p j 0 ≡ get_or l.initial.p j 0)
    × (l.before ≡ (poly g.F.Field.ops).mul (mono g.F.Field.ops g.F.Field.ops.one 1) (coefs g.F.Field.places l.initial.p) l.x-index)
