use Rattle.std.proofs.Common.{◌≡◌, ℕ, ◌<◌, ◌≤◌, length, Some, None, Option, MatchOption}
use Rattle.algebra.specs.Series.{Series, Below, Degree}
use Rattle.polys.specs.Coefs.{poly, coefs}
use Rattle.polys.proofs.Steps.{zero_below}
use Rattle.polys.proofs.arithmetic.degree.Goals as goal

pub returns : goal.returns
returns g c = at c.degree_from.result c.degree_from.ensures where
  p : Series g.row.F.Denot
  p = coefs g.F.Field.places c.args.p.now

  n : ℕ
  n = length c.args.p.now

  at : (o : Option ℕ) → MatchOption o (Below g.F.Field.ops 0 p) (λ d. (0 ≤ d) × (d < n) × Degree g.F.Field.ops d p)
      → MatchOption o (p ≡ (poly g.F.Field.ops).zero) (λ d. (d < n) × Degree g.F.Field.ops d p)
  at None h = zero_below g.met.F.Field.laws g.F.Field.places g.met.F.Field.origin p h
  at (Some d) h = (h.1, h.2)
