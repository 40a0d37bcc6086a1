use Rattle.std.proofs.Common.{length, sym, ◌∙◌, subst}
use Rattle.algebra.specs.Series.{Series, Degree}
use Rattle.polys.specs.Coefs.{coefs, Division}
use Rattle.polys.proofs.Lists.{below_list}
use Rattle.decoding.proofs.Values.{value_same, value_division, quotient_degree}
use Rattle.decoding.proofs.States.{divided}
use Rattle.decoding.proofs.steps.quotient.Goals as goal

pub returns : goal.returns
returns g c =
    let k = g.met.F.Field.laws in
    let f = g.F.Field.ops in
    let pl = g.F.Field.places in
    let z = g.met.F.Field.origin in
    let n = c.args.n in
    let p = c.args.p.now in
    let d = c.args.d.now in
    let q = c.divide.new.quot in
    let r = c.divide.new.rem in
    let from = c.copy.new.into in
    let h : Division f n (coefs pl from) (coefs pl d) (coefs pl q) (coefs pl r) = divided k c.divide.result n (coefs pl from) (coefs pl d) (coefs pl q) (coefs pl r) c.requires.degree (λ h. h.0) (λ i h. h.0) c.divide.ensures in
    record {
      values = λ x. sym (value_same k pl z from p c.copy.ensures x) ∙ value_division k pl z n from d q r h x;
      rest = h.rest;
      degree = λ t top le. quotient_degree k n t (coefs pl from) (coefs pl d) (coefs pl q) (coefs pl r) h (subst (λ (s : Series g.row.F.Denot). Degree f t s) (sym c.copy.ensures) top) le (length q) (below_list k pl z q);
    }
