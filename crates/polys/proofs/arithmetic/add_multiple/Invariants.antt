use Rattle.std.proofs.Common.{◌≡◌, take}
use Rattle.polys.specs.Coefs.{Placed, poly, coefs, mono}
use Rattle.polys.proofs.arithmetic.add_multiple.Given as goal

abbrev pub invariant-loop-i : goal.invariant-loop-i
invariant-loop-i g l =
    (coefs g.F.Field.places l.into
    ≡ (poly g.F.Field.ops).add (coefs g.F.Field.places l.initial.into) ((poly g.F.Field.ops).mul (mono g.F.Field.ops l.c 0) (coefs g.F.Field.places (take l.i l.p))))
    × (Placed g.F.Field.BITS l.initial.into → Placed g.F.Field.BITS l.into)
