use Rattle.std.proofs.Common.{rules, ◌≡◌, replicate, ◌+◌, ◌-◌, length, get_or, ap, ◌∙◌, subst, arith}
use Rattle.algebra.specs.Series.{Series}
use Rattle.polys.specs.Coefs.{coefs}
use Rattle.polys.specs.Euclid.{Reduced}
use Rattle.polys.proofs.Lists.{coefs_zeros, coefs_take, write_new, get_d_zeros}
use Rattle.polys.proofs.Rule.{euclid_none, euclid_more, euclid_swap, one_write, factor}
use Rattle.polys.proofs.Bridge.{at_points}
use Rattle.polys.proofs.euclid.euclid.Goals as goal

pub loop-k-init : goal.loop-k-init
loop-k-init g c =
    let k = g.met.F.Field.laws in
    let f = g.F.Field.ops in
    let pl = g.F.Field.places in
    let z = g.met.F.Field.origin in
    let zeros_a : c.fill.new.self ≡ replicate (length c.args.a.now) 0 = search rules in
    let zeros_b : c.fill-2.new.self ≡ replicate (length c.args.b.now) 0 = search rules in
    let zero_a = ap (coefs pl) zeros_a ∙ coefs_zeros k pl z (length c.args.a.now) in
    let zero-b = ap (coefs pl) zeros_b ∙ coefs_zeros k pl z (length c.args.b.now) in
    let none = ap (λ l. get_or l 0 0) zeros_b ∙ get_d_zeros (length c.args.b.now) 0 in
    let wrote = write_new k pl z c.fill-2.new.self 0 c.place.result f.one (omega arith) none (cc) in
    (omega arith, euclid_none k c.args.top (coefs pl c.args.s.now) (coefs pl c.args.r.now) _ _ c.requires.degree c.requires.under zero_a (one_write k (coefs pl c.fill-2.new.self) _ zero-b wrote))

pub loop-k-preserved : goal.loop-k-preserved
loop-k-preserved g c =
    let k = g.met.F.Field.laws in
    let f = g.F.Field.ops in
    let pl = g.F.Field.places in
    let z = g.met.F.Field.origin in
    let of = coefs pl in
    let inv = c.loop-k.invariant.1 in
    let got = c.in-Some.ensures in
    let front = coefs_take k pl z c.loop-k.b (c.args.top - c.loop-k.n + 1) (λ x h. inv.short_b x (omega arith)) in
    let same = subst (λ (x : Series g.row.F.Denot). Reduced f (c.loop-k.n + 1 - c.in-Some.k) (of c.loop-k.s) (of c.loop-k.r) (of c.loop-k.a) x (of c.reduce.new.s) (of c.reduce.new.a)) front c.reduce.ensures.same in (
      got.0,
      euclid_swap k c.args.top (of c.args.s.now) (of c.args.r.now) (of c.loop-k.r) (of c.reduce.new.s) (of c.loop-k.b) (of c.reduce.new.a) _ _ _ _ c.in-Some.k
          (ap of c.swap_with_slice.ensures.after) (ap of c.swap_with_slice.ensures.other_after) (ap of c.swap_with_slice-in-Some.ensures.after) (ap of c.swap_with_slice-in-Some.ensures.other_after)
          (euclid_more k c.args.top (of c.args.s.now) (of c.args.r.now) (of c.loop-k.s) (of c.loop-k.r) (of c.loop-k.a) (of c.loop-k.b) (of c.reduce.new.s) (of c.reduce.new.a) c.loop-k.n c.in-Some.k
          inv got.2 same c.reduce.ensures.rest),
    )

pub returns : goal.returns
returns g c =
    let k = g.met.F.Field.laws in
    let pl = g.F.Field.places in
    let of = coefs pl in
    let inv = c.loop-k.invariant in
    record {
      rule = inv.1;
      points = at_points k pl g.met.F.Field.origin c.args.top c.loop-k.n c.args.s.now c.args.r.now c.loop-k.s c.loop-k.r c.loop-k.a c.loop-k.b inv.1;
      factor = factor k c.args.top (of c.args.s.now) (of c.args.r.now) (of c.loop-k.s) (of c.loop-k.r) (of c.loop-k.a) (of c.loop-k.b) c.loop-k.n c.requires.degree inv.1;
      last = (inv.0, c.in_default.ensures);
    }
