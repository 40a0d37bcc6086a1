use Rattle.std.proofs.Common.{rules, replicate, ◌≡◌, ◌+◌, ◌-◌, ◌≢◌, [], ◌∷◌, length, get_or, sym, refl, ap, ◌∙◌, subst, arith, get_or-set_other}
use Rattle.algebra.specs.Series.{Series, Below}
use Rattle.algebra.proofs.Solve.{v, o, ◌⊕◌, ◌⊗◌, solve}
use Rattle.polys.specs.Coefs.{poly, coefs, mono}
use Rattle.polys.proofs.Terms.{poly_laws}
use Rattle.polys.proofs.Lists.{write_new, coefs_at, coefs_take, coefs_zeros, below_list, get_d_zeros}
use Rattle.polys.proofs.Steps.{drop_top, divide_more, lead_degree}
use Rattle.polys.proofs.Places.{placed_zeros, placed_set, number_below}
use Rattle.polys.proofs.arithmetic.divide.Goals as goal

pub loop-n-init : goal.loop-n-init
loop-n-init g c =
    let k = g.met.F.Field.laws in
    let pl = g.F.Field.places in
    let z = g.met.F.Field.origin in
    let zeros : c.fill.new.self ≡ replicate (length c.args.quot.now) 0 = search rules in
    let e₁ = coefs_zeros k pl z (length c.args.quot.now) in
    let e₂ = solve (poly_laws k) (coefs pl c.args.rem.now ∷ coefs pl c.args.d.now ∷ []) (v 0) ((o ⊗ v 1) ⊕ v 0) refl in
    (cc, below_list k pl z c.args.rem.now, λ j h. ap (λ l. get_or l j 0) zeros ∙ get_d_zeros (length c.args.quot.now) j, placed_zeros g.F.Field.BITS (length c.args.quot.now) _ zeros, λ h. h)

pub loop-n-preserved : goal.loop-n-preserved
loop-n-preserved g c =
    let k = g.met.F.Field.laws in
    let f = g.F.Field.ops in
    let pl = g.F.Field.places in
    let z = g.met.F.Field.origin in
    let K = c.in_ok-k.k in
    let n = c.loop-n.n - 1 in
    let got = c.leading_inverse-e.ensures.lead in
    let inv = c.loop-n.invariant in
    let D = coefs pl c.args.d.now in
    let R = coefs pl c.loop-n.rem in
    let M = mono f c.product-c.result (n - K) in
    let wrote = write_new k pl z c.loop-n.quot (n - K) c.place.result c.product-c.result (omega arith) (inv.2 (n - K) (omega arith)) c.place.ensures in
    let front = coefs_take k pl z c.args.d.now (K + 1) (λ j h. got.under j (omega arith)) in
    let put = c.add_scaled.ensures.is in
    let added : coefs pl c.add_scaled.new.into ≡ (poly f).add R ((poly f).mul M D) = cc in
    let by : c.product-c.result ≡ f.mul c.read.result c.leading_inverse-e.result = c.product-c.ensures in
    let read : c.product-c.result ≡ f.mul (R n) c.leading_inverse-e.result = by ∙ ap (λ x. f.mul x c.leading_inverse-e.result) (c.read.ensures ∙ sym (coefs_at k pl c.loop-n.rem n)) in
    let less = drop_top k pl z R D K n c.leading_inverse-e.result c.product-c.result got (λ j h. inv.1 j (omega arith)) (omega arith) read in (
      divide_more k pl z (coefs pl c.args.rem.now) (coefs pl c.loop-n.quot) R D M _ _ inv.0 wrote added,
      subst (λ (p : Series g.row.F.Denot). Below f n p) (sym added) less,
      λ j h. let ne : j ≢ n - K = omega arith in get_or-set_other c.loop-n.quot (n - K) j c.place.result 0 ne ∙ inv.2 j (omega arith),
      placed_set g.F.Field.BITS c.loop-n.quot (n - K) c.place.result (omega arith) inv.3 (number_below pl c.place.result c.product-c.result c.place.ensures),
      λ h. c.add_scaled.ensures.placed (inv.4 h),
    )

pub returns : goal.returns
returns g c =
    let inv = c.loop-n.invariant in (
      record {
        degree = lead_degree g.met.F.Field.laws g.F.Field.places g.met.F.Field.origin c.in_ok-k.k c.leading_inverse-e.result (coefs g.F.Field.places c.args.d.now) c.leading_inverse-e.ensures.lead;
        whole = inv.0;
        rest = λ j h. inv.1 j (omega arith);
      },
      inv.3,
      inv.4,
    )
