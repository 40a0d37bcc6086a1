use Rattle.std.proofs.Common.{◌≤◌}
use Rattle.polys.specs.Coefs.{coefs}
use Rattle.polys.specs.Euclid.{Euclid}
use Rattle.polys.proofs.euclid.euclid.Given as goal

abbrev pub invariant-loop-k : goal.invariant-loop-k
invariant-loop-k g l =
    let of = coefs g.F.Field.places in
    (l.stop ≤ l.n) × Euclid g.F.Field.ops l.top (of l.initial.s) (of l.initial.r) (of l.s) (of l.r) (of l.a) (of l.b) l.n

abbrev pub decreases-loop-k : goal.decreases-loop-k
decreases-loop-k g l = l.n
