use Rattle.algebra.specs.Series.{Below}
use Rattle.polys.specs.Coefs.{coefs}
use Rattle.polys.proofs.arithmetic.degree_from.Given as goal

abbrev pub invariant-loop-i : goal.invariant-loop-i
invariant-loop-i g l = Below g.F.Field.ops l.i (coefs g.F.Field.places l.p)
