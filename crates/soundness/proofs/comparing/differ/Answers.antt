use Rattle.std.proofs.Common.{◌*◌, not, ◌||◌, eqb, length, sym, ap, ◌∙◌, ap₂, arith, rules}
use Rattle.std.proofs.lemmas.Slice.Zip.{zip_turn, zip_end}
use Rattle.std.proofs.lemmas.List.{length-append}
use Rattle.bits.specs.Vectors.{◌⊕◌, weight}
use Rattle.bits.specs.Packed.{vector}
use Rattle.soundness.proofs.Counting.{weight_start}
use Rattle.soundness.proofs.Rowwise.{differ_more}
use Rattle.soundness.proofs.comparing.differ.Goals as goal

pub loop-x-init : goal.loop-x-init
loop-x-init c = sym (ap (λ n. not (eqb n 0)) (weight_start (λ j. vector c.args.a.now j ⊕ vector c.args.b.now j)))

pub loop-x-preserved : goal.loop-x-preserved
loop-x-preserved c =
    let k = length c.loop-x.yielded in
    let t = zip_turn c.args.a.now c.args.b.now c.loop-x.yielded c.into_iter-x-iterator.result c.loop-x.x-iterator c.next.new.self c.next.result (search rules) (search rules) c.loop-x.yielded_by _ c.in-Some.is c.next.ensures.steps in
    simp length-append
    (ap₂ (λ h x. h || not x) c.loop-x.invariant (ap₂ eqb (t.2 0) (t.3 0))
    ∙ differ_more c.args.a.now c.args.b.now k (c.type_inv.a k).fits (c.type_inv.b k).fits)

pub returns : goal.returns
returns c =
    let e = zip_end c.args.a.now c.args.b.now c.loop-x.yielded c.into_iter-x-iterator.result c.loop-x.x-iterator c.next.new.self c.next.result (search rules) (search rules) c.loop-x.yielded_by c.in-None.is c.next.ensures.steps in
    c.loop-x.invariant
    ∙ ap (λ n. not (eqb (weight (8 * n) (λ j. vector c.args.a.now j ⊕ vector c.args.b.now j)) 0)) (omega (arith, e))
