use Rattle.std.proofs.Common.{◌*◌, length, ◌∙◌, arith}
use Rattle.bits.specs.Vectors.{Vector, dot}
use Rattle.bits.specs.Packed.{vector, matrix}
use Rattle.matrices.proofs.Bytes.{row_before, row_part}
use Rattle.matrices.proofs.Parts.{added_none, added_more}
use Rattle.matrices.proofs.add_product.Goals as goal

pub slice_bounds-parity-end : goal.slice_bounds-parity-end
slice_bounds-parity-end c =
    omega (arith, row_before (length c.args.v.now) c.loop-i.i (8 * length c.args.out.now) (omega arith))

pub loop-i-init : goal.loop-i-init
loop-i-init c = added_none _ c.args.out.now

pub loop-i-preserved : goal.loop-i-preserved
loop-i-preserved c =
    let w = length c.args.v.now in
    let f : Vector = λ i. dot (8 * w) (matrix w c.args.m.now i) (vector c.args.v.now) in
    added_more c.loop-i.i f c.parity.result c.args.out.now c.loop-i.out c.add_bit.new.v c.loop-i.invariant c.add_bit.ensures
    (c.parity.ensures ∙ row_part w c.loop-i.i _ c.args.m.now (vector c.args.v.now) (omega arith))

pub returns : goal.returns
returns c i l = c.loop-i.invariant.done i (omega arith)
