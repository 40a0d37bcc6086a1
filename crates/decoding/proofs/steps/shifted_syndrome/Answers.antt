use Rattle.std.proofs.Common.{rules, ◌≡◌, replicate, length, get_or, sym, ap, ◌∙◌, arith, length-set}
use Rattle.polys.specs.Coefs.{poly, coefs, mono}
use Rattle.polys.proofs.Lists.{coefs_zeros, coefs_at, write_new, get_d_zeros}
use Rattle.polys.proofs.Rule.{one_write}
use Rattle.decoding.proofs.Values.{shifted_value, shifted_under}
use Rattle.decoding.proofs.steps.shifted_syndrome.Goals as goal

pub returns : goal.returns
returns g c =
    let k = g.met.F.Field.laws in
    let f = g.F.Field.ops in
    let pl = g.F.Field.places in
    let z = g.met.F.Field.origin in
    let cleared = c.fill.new.self in
    let zeros : cleared ≡ replicate (length c.args.v.now) 0 = search rules in
    let none : coefs pl cleared ≡ (poly f).zero = ap (coefs pl) zeros ∙ coefs_zeros k pl z (length c.args.v.now) in
    let wrote = write_new k pl z cleared 0 c.place.result c.one.result (omega arith) (ap (λ l. get_or l 0 0) zeros ∙ get_d_zeros (length c.args.v.now) 0) c.place.ensures in
    let first = one_write k (coefs pl cleared) _ none (wrote ∙ ap (λ x. (poly f).add (coefs pl cleared) (mono f x 0)) c.one.ensures) in
    let b = c.add_scaled.new.into in
    let l = c.add_multiple.new.into in
    let unit = c.one-2.ensures in
    let put = c.add_scaled.ensures.is in
    let read : c.read-c.result ≡ coefs pl b c.args.t = c.read-c.ensures ∙ sym (coefs_at k pl b c.args.t) in
    record {
      under = shifted_under k pl z b l c.args.g.now c.args.t c.read-c.result (omega (arith, length-set cleared 0 c.place.result)) read c.requires.monic c.add_multiple.ensures.is;
      values = shifted_value k pl z _ b l c.args.s.now c.args.g.now c.read-c.result first (cc) c.add_multiple.ensures.is;
    }
