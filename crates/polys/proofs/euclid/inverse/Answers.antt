use Rattle.std.proofs.Common.{◌≡◌, sym, ◌∙◌}
use Rattle.polys.specs.Coefs.{coefs}
use Rattle.polys.proofs.Lists.{coefs_at}
use Rattle.polys.proofs.Rule.{inverse_made, shared_made}
use Rattle.polys.proofs.euclid.inverse.Goals as goal

pub returns-in_err-e : goal.returns-in_err-e
returns-in_err-e g c =
    let k = g.met.F.Field.laws in
    let of = coefs g.F.Field.places in
    let got = c.euclid.ensures in
    let x = c.euclid.new in
    rw c.from_residual.ensures
    (shared_made k c.args.top (of c.args.s.now) (of c.args.r.now) (of x.s) (of x.r) (of x.a) (of x.b) c.euclid.result got.rule got.last.0 got.last.1
    (coefs_at k g.F.Field.places x.r 0 ∙ sym c.read.ensures ∙ c.in_err-e.ensures))

pub returns : goal.returns
returns g c =
    let k = g.met.F.Field.laws in
    let f = g.F.Field.ops in
    let of = coefs g.F.Field.places in
    let got = c.euclid.ensures in
    let x = c.euclid.new in
    let here = c.in_ok-e.ensures in
    let read : of x.r 0 ≡ c.read.result = coefs_at k g.F.Field.places x.r 0 ∙ sym c.read.ensures in
    let whole = k.mul_inv c.read.result here.0 in
    let is = here.1 in
    let top : f.mul (of x.r 0) c.in_ok-e.e ≡ f.one = cc in (
      inverse_made k c.args.top (of c.args.s.now) (of c.args.r.now) (of x.s) (of x.r) (of x.a) (of x.b) (of c.scale.new.p) c.euclid.result c.in_ok-e.e got.rule got.last.0 got.last.1
          top c.scale.ensures.is,
      c.scale.ensures.placed,
    )
