use Rattle.std.proofs.Common.{◌≡◌, ℕ, List, sym, ap, ◌∙◌, subst}
use Rattle.polys.specs.Coefs.{coefs}
use Rattle.polys.specs.Values.{value}
use Rattle.polys.proofs.Lists.{coefs_at}
use Rattle.patterson.specs.Polys.{Splits}
use Rattle.decoding.proofs.Values.{value_same}
use Rattle.decoding.proofs.Inverses.{inverse_under, inverse_value}
use Rattle.decoding.proofs.roots.inverse_modulo.Goals as goal

pub returns : goal.returns
returns g c =
    let k = g.met.F.Field.laws in
    let f = g.F.Field.ops in
    let pl = g.F.Field.places in
    let z = g.met.F.Field.origin in
    let n = c.args.n in
    let q = c.args.q.now in
    let p = c.copy_from_slice.new.self in
    let r = c.copy.new.into in
    let y = c.euclid.new in
    let got = c.euclid.ensures in
    let d = c.euclid.result in
    let e = c.inverse_or_zero-e.result in
    let out = c.scale.new.p in
    let same = c.copy_from_slice.ensures.after in
    let is : c.read.result ≡ coefs pl y.r 0 = c.read.ensures ∙ sym (coefs_at k pl y.r 0) in
    record {
      under = inverse_under k pl z n d p r y.s y.r y.a y.b out e got.rule got.last.0 c.scale.ensures.is;
      values = λ zs sp some x at.
          ap (f.mul (value f pl out x)) (sym (value_same k pl z r q c.copy.ensures x))
          ∙ inverse_value k pl z n d p r y.s y.r y.a y.b out e got.rule got.last.0 c.scale.ensures.is got.points got.last.1
          (λ nz. c.inverse_or_zero-e.ensures.inverse (λ w. nz (sym is ∙ w)) ∙ ap f.inv is)
          zs (subst (λ (l : List ℕ). Splits f n (value f pl l) zs) (sym same) sp) (λ u i w. some u i (sym (value_same k pl z r q c.copy.ensures u) ∙ w))
          x (ap (λ (l : List ℕ). value f pl l x) same ∙ at);
    }
