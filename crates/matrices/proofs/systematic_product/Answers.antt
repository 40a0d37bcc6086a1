use Rattle.std.proofs.Common.{◌≡◌, ℕ, ◌-◌, ◌*◌, List, length, take, drop, ap, ◌∙◌, arith}
use Rattle.bits.specs.Vectors.{◌⊕◌, dot}
use Rattle.bits.specs.Packed.{vector, matrix}
use Rattle.bits.proofs.Packing.{packed_is}
use Rattle.matrices.proofs.Parts.{two_parts}
use Rattle.matrices.proofs.systematic_product.Goals as goal

pub returns : goal.returns
returns c =
    let v = c.args.v.now in
    let f = length c.args.out.now in
    let rest = take (length v - f) (drop f v) in
    let zero : f - 0 ≡ f = omega arith in
    let front : c.copy_from_slice.new.self ≡ take f v = c.copy_from_slice.ensures.after ∙ ap (λ n. take n v) zero in
    packed_is f _ c.add_product.new.out (omega arith) (λ k. (c.type_inv.out k).fits)
    (two_parts f c.args.m.now v c.add_product.new.out (omega arith)
    (λ i l. c.add_product.ensures i (omega arith)
    ∙ ap (λ (x : List ℕ). vector x i ⊕ dot (8 * length rest) (matrix (length rest) c.args.m.now i) (vector rest)) front))
