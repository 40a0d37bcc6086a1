use Rattle.std.proofs.Common.{◌+◌, ◌-◌}
use Rattle.algebra.specs.Series.{Below}
use Rattle.polys.specs.Coefs.{coefs}
use Rattle.polys.specs.Euclid.{Reduced}
use Rattle.polys.proofs.euclid.reduce.Given as goal

abbrev pub invariant-loop-j : goal.invariant-loop-j
invariant-loop-j g l =
    let of = coefs g.F.Field.places in
    Below g.F.Field.ops l.j (of l.s)
    × Reduced g.F.Field.ops (l.n + 1 - l.k) (of l.initial.s) (of l.r) (of l.initial.a) (of l.b) (of l.s) (of l.a)
