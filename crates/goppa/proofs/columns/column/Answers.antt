use Rattle.std.proofs.Common.{◌≡◌, length, arith}
use Rattle.polys.specs.Values.{value}
use Rattle.goppa.proofs.Quotients.{column_is}
use Rattle.goppa.proofs.columns.column.Goals as goal

pub returns : goal.returns
returns g c =
    let f = g.F.Field.ops in
    let here = c.in_ok-e.ensures in
    let is = here.1 in
    let v = value f g.F.Field.places c.args.g.now c.args.a in
    let at : c.value_at.result ≡ v = c.value_at.ensures in
    column_is g.met.F.Field.laws g.F.Field.places g.met.F.Field.origin (length c.args.out.now) c.args.g.now c.scaled_quotient.new.out c.args.a c.in_ok-e.e
    c.requires.0 c.requires.1 (omega arith) c.scaled_quotient.ensures
    (λ e. here.0 (cc)) (cc)
