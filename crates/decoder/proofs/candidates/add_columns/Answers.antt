use Rattle.std.proofs.Common.{rules, replicate, ◌≡◌, cond, length, get_or, sym, ap, ◌∙◌, ap₂, arith}
use Rattle.algebra.specs.Series.{Series}
use Rattle.bits.specs.Packed.{vector}
use Rattle.polys.specs.Coefs.{coefs}
use Rattle.polys.proofs.Terms.{at_zero}
use Rattle.polys.proofs.Lists.{coefs_at, coefs_zeros}
use Rattle.polys.proofs.Places.{placed_zeros}
use Rattle.goppa.specs.Matrix.{column_place}
use Rattle.decoder.specs.Sums.{selected, column_sum}
use Rattle.decoder.proofs.Sums.{column_sum_more}
use Rattle.decoder.proofs.candidates.add_columns.Goals as goal

pub loop-j-init : goal.loop-j-init
unfolding column_sum selected
loop-j-init g c =
    let k = g.met.F.Field.laws in
    let pl = g.F.Field.places in
    let n = length c.args.sum.now in
    let zeros : c.fill.new.self ≡ replicate n 0 = search rules in (
      λ r l. ap (λ (s : Series g.row.F.Denot). s r) (ap (coefs pl) zeros ∙ coefs_zeros k pl g.met.F.Field.origin n) ∙ at_zero k r,
      placed_zeros g.F.Field.BITS n _ zeros,
    )

pub loop-j-preserved : goal.loop-j-preserved
loop-j-preserved g c =
    let f = g.F.Field.ops in
    let pl = g.F.Field.places in
    let gs = c.args.code.now.g.now in
    let sup = c.args.code.now.support.now in
    let e = vector c.args.e.now in
    let j = c.loop-j.j in
    let t = length c.fill.new.self in
    let en : length c.loop-j.sum ≡ t = omega arith in (
      λ r l.
          c.add_chosen.ensures.sum r (omega arith)
          ∙ ap₂ (λ n b. f.add (coefs pl c.loop-j.sum r) (cond b (pl.at (column_place f pl n gs (get_or sup j 0) r)) f.zero)) en c.bit.ensures
          ∙ ap (λ x. f.add x (cond (e j) (pl.at (column_place f pl t gs (get_or sup j 0) r)) f.zero)) (c.loop-j.invariant.0 r l)
          ∙ sym (column_sum_more f pl t gs sup j e r),
      c.add_chosen.ensures.placed c.loop-j.invariant.1,
    )

pub returns : goal.returns
returns g c =
    let k = g.met.F.Field.laws in
    let f = g.F.Field.ops in
    let pl = g.F.Field.places in
    let sum = c.loop-j.sum in
    let en : length c.fill.new.self ≡ length c.args.sum.now = omega arith in
    let end : c.loop-j.j ≡ length c.args.code.now.support.now = omega arith in
    λ r l.
    sym (pl.num_at (get_or sum r 0) (c.loop-j.invariant.1 r))
    ∙ ap pl.num (sym (coefs_at k pl sum r) ∙ c.loop-j.invariant.0 r (omega arith)
    ∙ ap₂ (λ t n. column_sum f pl t c.args.code.now.g.now c.args.code.now.support.now n (vector c.args.e.now) r) en end)
