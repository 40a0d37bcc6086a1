use Rattle.std.proofs.Common.{ℕ, List, subst}
use Rattle.algebra.specs.Series.{Series}
use Rattle.polys.specs.Coefs.{coefs}
use Rattle.polys.specs.Euclid.{Gcd}
use Rattle.decoding.proofs.States.{divisor_of, divisor_degree}
use Rattle.decoding.proofs.steps.common_divisor.Goals as goal

pub returns : goal.returns
returns g c =
    let k = g.met.F.Field.laws in
    let f = g.F.Field.ops in
    let pl = g.F.Field.places in
    let z = g.met.F.Field.origin in
    let t = c.args.t in
    let n = c.gcd.result in
    let G = c.args.g.now in
    let q = c.args.q.now in
    let out = c.gcd.new.s in
    let of : List ℕ → Series g.row.F.Denot = coefs pl in
    let first : Gcd f t n (of G) (of c.copy.new.into) (of out) =
    subst (λ (l : List ℕ). Gcd f t n (of l) (of c.copy.new.into) (of out)) c.copy_from_slice.ensures.after c.gcd.ensures.is in
    let made : Gcd f t n (of G) (of q) (of out) = subst (λ (s : Series g.row.F.Denot). Gcd f t n (of G) s (of out)) c.copy.ensures first in
    record { divisor = divisor_of k pl z t n G q out made; degree = (made.within, divisor_degree k pl z t n G q out made) }
