use Rattle.std.proofs.Common.{◌≡◌, ℕ, ◌-◌, ◌<◌, get_or}
use Rattle.algebra.specs.Series.{Below}
use Rattle.polys.specs.Coefs.{Placed, poly, coefs}
use Rattle.polys.proofs.arithmetic.divide.Given as goal

abbrev pub invariant-loop-n : goal.invariant-loop-n
invariant-loop-n g l =
    (coefs g.F.Field.places l.initial.rem ≡ (poly g.F.Field.ops).add ((poly g.F.Field.ops).mul (coefs g.F.Field.places l.quot) (coefs g.F.Field.places l.d)) (coefs g.F.Field.places l.rem))
    × Below g.F.Field.ops l.n (coefs g.F.Field.places l.rem)
    × ((j : ℕ) → j < l.n - l.k → get_or l.quot j 0 ≡ 0)
    × Placed g.F.Field.BITS l.quot
    × (Placed g.F.Field.BITS l.initial.rem → Placed g.F.Field.BITS l.rem)
