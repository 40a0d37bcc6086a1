use Rattle.std.proofs.Common.{◌+◌, sym, ap, ◌∙◌, arith, rules}
use Rattle.algebra.specs.Series.{Degree}
use Rattle.polys.specs.Coefs.{coefs}
use Rattle.polys.specs.Values.{value}
use Rattle.polys.proofs.Lists.{below_list}
use Rattle.decoding.proofs.Values.{poly_of, value_times}
use Rattle.decoding.proofs.States.{degree_mul}
use Rattle.decoding.proofs.locate.prepare.Goals as goal

pub common_divisor-n1-requires : goal.common_divisor-n1-requires
common_divisor-n1-requires g c =
    let k = g.met.F.Field.laws in
    let pl = g.F.Field.places in
    let z = g.met.F.Field.origin in
    record {
      fits = search rules;
      work = search rules;
      degree = (λ e. k.one_zero (sym c.requires.code.1.1 ∙ e), λ j h. below_list k pl z c.args.g.now j (omega arith));
      under = λ j h. below_list k pl z c.args.s.now j (omega arith);
    }

pub common_divisor-n2-requires : goal.common_divisor-n2-requires
common_divisor-n2-requires g c =
    let k = g.met.F.Field.laws in
    let pl = g.F.Field.places in
    let z = g.met.F.Field.origin in
    record {
      fits = search rules;
      work = search rules;
      degree = (λ e. k.one_zero (sym c.requires.code.1.1 ∙ e), λ j h. below_list k pl z c.args.g.now j (omega arith));
      under = c.shifted_syndrome.ensures.under;
    }

pub quotient-requires-3 : goal.quotient-requires-3
quotient-requires-3 g c =
    let k = g.met.F.Field.laws in
    let pl = g.F.Field.places in
    record {
      fits = search rules;
      degree = degree_mul k c.common_divisor-n1.result c.common_divisor-n2.result (coefs pl c.common_divisor-n1.new.out) (coefs pl c.common_divisor-n2.new.out) (coefs pl c.product.new.out) c.product.ensures.is
          c.common_divisor-n1.ensures.degree.1 c.common_divisor-n2.ensures.degree.1;
    }

pub returns : goal.returns
returns g c =
    let k = g.met.F.Field.laws in
    let f = g.F.Field.ops in
    let pl = g.F.Field.places in
    let z = g.met.F.Field.origin in
    let t = c.args.t in
    let n1 = c.common_divisor-n1.result in
    let n2 = c.common_divisor-n2.result in
    let G = c.args.g.now in
    let g1 = c.common_divisor-n1.new.out in
    let g2 = c.common_divisor-n2.new.out in
    let top : Degree f t (coefs pl G) = (λ e. k.one_zero (sym c.requires.code.1.1 ∙ e), λ j h. below_list k pl z G j (omega arith)) in
    record {
      prepared = λ zs zeros. record {
        v_is = λ x i. c.shifted_syndrome.ensures.values x (zeros x i);
        s_divisor = c.common_divisor-n1.ensures.divisor zs zeros;
        v_divisor = c.common_divisor-n2.ensures.divisor zs zeros;
        s_rest = value f pl c.quotient.new.rest;
        s_rest_poly = poly_of k pl z c.quotient.new.rest n1 c.quotient.ensures.rest;
        s_division = c.quotient.ensures.values;
        v_rest = value f pl c.quotient-2.new.rest;
        v_rest_poly = poly_of k pl z c.quotient-2.new.rest n2 c.quotient-2.ensures.rest;
        v_division = c.quotient-2.ensures.values;
        g_rest = value f pl c.quotient-3.new.rest;
        g_rest_poly = poly_of k pl z c.quotient-3.new.rest (n1 + n2) c.quotient-3.ensures.rest;
        g_division = λ x. c.quotient-3.ensures.values x
            ∙ ap (λ y. f.add (f.mul (value f pl c.quotient-3.new.out x) y) (value f pl c.quotient-3.new.rest x)) (value_times k pl z c.product.new.out g1 g2 c.product.ensures.is x);
      };
      degree_1 = c.common_divisor-n1.ensures.degree.1;
      degree_2 = c.common_divisor-n2.ensures.degree.1;
      degree_rest = λ le. c.quotient-3.ensures.degree t top le;
    }
