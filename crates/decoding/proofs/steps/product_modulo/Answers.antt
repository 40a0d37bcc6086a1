use Rattle.std.proofs.Common.{◌≡◌, length, take, rules}
use Rattle.polys.specs.Coefs.{coefs, Division}
use Rattle.decoding.proofs.States.{divided, product_under, product_value}
use Rattle.decoding.proofs.steps.product_modulo.Goals as goal

pub returns : goal.returns
returns g c =
    let k = g.met.F.Field.laws in
    let f = g.F.Field.ops in
    let pl = g.F.Field.places in
    let z = g.met.F.Field.origin in
    let n = c.args.n in
    let p = c.args.p.now in
    let q = c.args.q.now in
    let d = c.args.modulus.now in
    let wide = c.product.new.out in
    let quot = c.divide.new.quot in
    let rest = c.divide.new.rem in
    let out = c.copy_from_slice.new.self in
    let l = length c.args.out.now in
    let h : Division f n (coefs pl wide) (coefs pl d) (coefs pl quot) (coefs pl rest) = divided k c.divide.result n (coefs pl wide) (coefs pl d) (coefs pl quot) (coefs pl rest) c.requires.degree (λ h. h.0) (λ i h. h.0) c.divide.ensures in
    let same : out ≡ take l rest = search rules in
    record {
      under = product_under k pl z n p q d wide quot rest out l c.product.ensures.is h same c.requires.fits.1.1.1;
      values = product_value k pl z n p q d wide quot rest out l c.product.ensures.is h same c.requires.fits.1.1.1;
    }
