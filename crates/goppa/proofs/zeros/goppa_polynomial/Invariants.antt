use Rattle.std.proofs.Common.{◌≡◌, map, reverse}
use Rattle.polys.specs.Coefs.{coefs}
use Rattle.goppa.specs.Zeros.{from_zeros, AllPlaces}
use Rattle.goppa.proofs.zeros.goppa_polynomial.Given as goal

abbrev pub invariant-loop-b : goal.invariant-loop-b
invariant-loop-b g l =
    (coefs g.F.Field.places l.g ≡ from_zeros g.F.Field.ops (map g.F.Field.places.at (reverse (map (λ y. y.now) l.yielded))))
    × AllPlaces g.F.Field.BITS l.g
