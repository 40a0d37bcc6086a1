use Rattle.std.proofs.Common.{◌≡◌, take}
use Rattle.polys.specs.Coefs.{Placed, poly, coefs}
use Rattle.polys.proofs.arithmetic.product.Given as goal

abbrev pub invariant-loop-i : goal.invariant-loop-i
invariant-loop-i g l =
    (coefs g.F.Field.places l.out
    ≡ (poly g.F.Field.ops).mul (coefs g.F.Field.places (take l.i l.p)) (coefs g.F.Field.places l.q))
    × Placed g.F.Field.BITS l.out
