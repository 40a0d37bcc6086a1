use Rattle.polys.specs.Coefs.{coefs}
use Rattle.polys.proofs.Rule.{gcd_made}
use Rattle.polys.proofs.euclid.gcd.Goals as goal

pub returns : goal.returns
returns g c =
    let k = g.met.F.Field.laws in
    let f = g.F.Field.ops in
    let of = coefs g.F.Field.places in
    let got = c.euclid-n.ensures in
    let x = c.euclid-n.new in
    let s = of x.s in
    let n = c.euclid-n.result in
    let top = got.rule.degree in
    record {
      is = gcd_made k c.args.top (of c.args.s.now) (of c.args.r.now) s (of x.r) (of x.a) (of x.b) (of c.make_monic.new.p) n (f.inv (s n))
          got.rule got.last.1 (record { top = k.mul_inv (s n) top.0; under = top.1 }) c.make_monic.ensures.is;
      placed = c.make_monic.ensures.placed;
    }
