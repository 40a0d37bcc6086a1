use Rattle.std.proofs.Common.{◌≡◌, ◌+◌, cond, sym, refl, ap, ◌∙◌, arith}
use Rattle.bits.specs.Vectors.{weight}
use Rattle.bits.specs.Packed.{vector}
use Rattle.decoder.proofs.Vectors.{weight_more}
use Rattle.decoder.proofs.candidates.weight_of.Goals as goal
use Rattle.decoder.proofs.candidates.weight_of.Goals.{then-bit, else-bit}

pub loop-j-init : goal.loop-j-init
unfolding weight
loop-j-init c = (refl, omega arith)

pub loop-j-preserved : goal.loop-j-preserved
loop-j-preserved c =
    let v = vector c.args.v.now in
    let j = c.loop-j.j in
    let step = weight_more j v in
    elim c.if-bit.branch [
      | then-bit w ↦
          let b = sym c.bit.ensures ∙ w.if-bit.true in
          let one : weight (j + 1) v ≡ weight j v + 1 = step ∙ ap (λ t. weight j v + cond t 1 0) b in
          (omega (arith, w.ones-is, one, c.loop-j.invariant.0), omega (arith, w.ones-is, c.loop-j.invariant.1))
      | else-bit w ↦
          let b = sym c.bit.ensures ∙ w.if-bit.false in
          let none : weight (j + 1) v ≡ weight j v + 0 = step ∙ ap (λ t. weight j v + cond t 1 0) b in
          (omega (arith, w.ones-is, none, c.loop-j.invariant.0), omega (arith, w.ones-is, c.loop-j.invariant.1))
    ]
