use Rattle.std.proofs.Common.{◌≡◌, ℕ, ◌+◌, ◌*◌, ◌<◌, get_or}
use Rattle.polys.specs.Coefs.{coefs}
use Rattle.decoding.proofs.locate.join_squares.Given as goal

abbrev pub invariant-loop-i : goal.invariant-loop-i
invariant-loop-i g l =
    let f = g.F.Field.ops in
    let pl = g.F.Field.places in
    ((j : ℕ) → j < l.i → get_or l.out (2 * j) 0 ≡ pl.num (f.mul (coefs pl l.p j) (coefs pl l.p j)))
    × ((j : ℕ) → j < l.i → get_or l.out (2 * j + 1) 0 ≡ pl.num (f.mul (coefs pl l.q j) (coefs pl l.q j)))
