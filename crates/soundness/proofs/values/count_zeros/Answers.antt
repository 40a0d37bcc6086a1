use Rattle.std.proofs.Common.{◌+◌, eqb, get_or, sym, ap, ◌∙◌, arith}
use mir.Val.{bool_byte}
use Rattle.bits.specs.Vectors.{Vector}
use Rattle.soundness.proofs.Counting.{weight_start, weight_next, weight_le}
use Rattle.soundness.proofs.values.count_zeros.Goals as goal

pub loop-v-init : goal.loop-v-init
loop-v-init c = sym (weight_start (λ j. eqb (get_or c.args.values.now j 0) 0))

pub overflow_add-found : goal.overflow_add-found
overflow_add-found c =
    let v : Vector = λ k. eqb (get_or c.args.values.now k 0) 0 in
    omega (arith, c.loop-v.invariant, weight_next c.loop-v.v-index v, weight_le (c.loop-v.v-index + 1) v)

pub loop-v-preserved : goal.loop-v-preserved
loop-v-preserved c =
    let v : Vector = λ k. eqb (get_or c.args.values.now k 0) 0 in
    ap (λ n. n + bool_byte (eqb (get_or c.args.values.now c.loop-v.v-index 0) 0)) c.loop-v.invariant ∙ sym (weight_next c.loop-v.v-index v)
