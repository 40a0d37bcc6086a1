use Rattle.std.proofs.Common.{◌≡◌, ◌<◌, length, sym, refl, ap, ◌∙◌, add-one, arith}
use Rattle.polys.specs.Coefs.{poly, coefs, mono}
use Rattle.polys.proofs.Lists.{coefs_at}
use Rattle.polys.proofs.Points.{below_set, above_set}
use Rattle.goppa.specs.Zeros.{linear}
use Rattle.goppa.proofs.Linear.{shift_zero, shift_suc, linear_at, linear_all, all_written}
use Rattle.goppa.proofs.zeros.times_linear.Goals as goal

pub loop-x-init : goal.loop-x-init
loop-x-init g c = (
  λ j h. absurd (omega arith),
  λ j h. refl,
  c.zero-before.ensures ∙ sym (shift_zero g.met.F.Field.laws (coefs g.F.Field.places c.args.p.now)),
)

pub loop-x-preserved : goal.loop-x-preserved
loop-x-preserved g c =
    let k = g.met.F.Field.laws in
    let f = g.F.Field.ops in
    let pl = g.F.Field.places in
    let n = c.loop-x.x-index in
    let P = coefs pl c.args.p.now in
    let inv = c.loop-x.invariant in
    let within : n < length c.loop-x.p = omega arith in
    let old = inv.1 n (omega arith) in
    let is = coefs_at k pl c.args.p.now n in
    let at = linear_at k c.args.a P n in
    let before = inv.2 in (
      below_set c.loop-x.p n c.place.result within (λ j w. w ≡ pl.num ((poly f).mul (linear f c.args.a) P j)) inv.0 (cc),
      λ j h. above_set c.loop-x.p n c.place.result within j h ∙ inv.1 j (omega arith),
      c.read-c.ensures ∙ ap pl.at old ∙ sym is ∙ sym (shift_suc k P n) ∙ ap ((poly f).mul (mono f f.one 1) P) (sym (add-one n)),
    )

pub returns : goal.returns
returns g c =
    let pl = g.F.Field.places in
    record {
      product =
          linear_all g.met.F.Field.laws pl g.met.F.Field.origin c.args.a c.args.p.now c.loop-x.p c.requires.0 (omega arith) c.requires.1
          (λ j h. c.loop-x.invariant.0 j (omega arith));
      written =
          all_written pl c.loop-x.p (length c.args.p.now) ((poly g.F.Field.ops).mul (linear g.F.Field.ops c.args.a) (coefs pl c.args.p.now)) (omega arith)
          (λ j h. c.loop-x.invariant.0 j (omega arith));
    }
