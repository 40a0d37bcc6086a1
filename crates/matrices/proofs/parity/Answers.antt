use Rattle.std.proofs.Common.{◌≡◌, length, get_or, sym, refl, ◌∙◌, ap₂, arith, rules}
use lib.Bits.{bit_and, xor_lt, and_le_l}
use Rattle.std.proofs.lemmas.Slice.Zip.{zip_turn, zip_end}
use Rattle.std.proofs.lemmas.List.{length-append}
use Rattle.bits.specs.Vectors.{dot}
use Rattle.bits.specs.Packed.{bit_of}
use Rattle.matrices.specs.Parity.{parity_of}
use Rattle.matrices.proofs.Bytes.{parity_more, parity_ones}
use Rattle.matrices.proofs.parity.Goals as goal

pub loop-x-init : goal.loop-x-init
unfolding parity_of dot bit_of
loop-x-init c = (omega arith, refl)

pub loop-x-preserved : goal.loop-x-preserved
loop-x-preserved c =
    let row = c.args.row.now in
    let v = c.args.v.now in
    let k = length c.loop-x.yielded in
    let t = zip_turn row v c.loop-x.yielded c.into_iter-x-iterator.result c.loop-x.x-iterator c.next.new.self c.next.result (search rules) (search rules) c.loop-x.yielded_by _ c.in-Some.is c.next.ensures.steps in
    let e = ap₂ bit_and (t.2 0) (t.3 0) in
    simp length-append (
      rw e (xor_lt 8 c.loop-x.sum (bit_and (get_or row k 0) (get_or v k 0)) c.loop-x.invariant.0 (omega (arith, and_le_l (get_or row k 0) (get_or v k 0), (c.type_inv.row k).fits))),
      rw e (parity_more row v k c.loop-x.sum c.loop-x.invariant.1),
    )

pub returns : goal.returns
returns c =
    let row = c.args.row.now in
    let v = c.args.v.now in
    let z = zip_end row v c.loop-x.yielded c.into_iter-x-iterator.result c.loop-x.x-iterator c.next.new.self c.next.result (search rules) (search rules) c.loop-x.yielded_by c.in-None.is c.next.ensures.steps in
    let e : length c.loop-x.yielded ≡ length v = omega (arith, z) in
    sym (parity_ones c.loop-x.sum c.loop-x.invariant.0) ∙ rw e at c.loop-x.invariant.1
