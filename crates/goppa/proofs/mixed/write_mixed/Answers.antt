use Rattle.std.proofs.Common.{◌≡◌, ◌*◌, length, get_or, replicate, refl, arith, rules, get_or-take, length-take}
use Rattle.bits.specs.Packed.{matrix}
use Rattle.matrices.specs.Columns.{ColumnAdded}
use Rattle.goppa.specs.Matrix.{column_bits, mixed_matrix}
use Rattle.goppa.proofs.Matrices.{none_written, more_written, all_written}
use Rattle.goppa.proofs.mixed.write_mixed.Goals as goal

pub loop-j-init : goal.loop-j-init
loop-j-init g c =
    let e : c.fill.new.self ≡ replicate (length c.args.m.now) 0 = search rules in
    none_written _ _ c.args.width (length c.args.m.now) _ c.fill.new.self e

pub loop-j-preserved : goal.loop-j-preserved
unfolding mixed_matrix
loop-j-preserved g c =
    let f = g.F.Field.ops in
    let pl = g.F.Field.places in
    let n = length c.args.column_of.now in
    let gs = c.args.code.now.g.now in
    let x = get_or c.args.code.now.support.now (get_or c.args.order.now c.loop-j.j 0) 0 in
    let long = length-take (8 * c.args.width) c.args.order.now in
    let at = get_or-take (8 * c.args.width) c.args.order.now c.loop-j.j 0 (omega (arith, long)) in
    let en : length c.loop-j.column_of ≡ n = omega arith in
    let added : ColumnAdded 0 (g.F.Field.BITS * n) (8 * c.args.width) c.loop-j.j (column_bits f pl n gs x) (matrix c.args.width c.loop-j.m) (matrix c.args.width c.add_code_column.new.m) =
    rw (at, en) at c.add_code_column.ensures in
    more_written (g.F.Field.BITS * n) (8 * c.args.width) c.loop-j.j (mixed_matrix f pl n gs c.args.code.now.support.now c.args.order.now)
    (matrix c.args.width c.loop-j.m) (matrix c.args.width c.add_code_column.new.m) (column_bits f pl n gs x) (λ i l. refl) added c.loop-j.invariant

pub returns : goal.returns
returns g c = all_written _ _ c.loop-j.j _ _ (omega (arith, length-take (8 * c.args.width) c.args.order.now)) c.loop-j.invariant
