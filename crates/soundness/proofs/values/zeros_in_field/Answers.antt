use Rattle.std.proofs.Common.{◌≡◌, ◌+◌, ◌≤◌, sym, ap, ◌∙◌, ap₂, arith}
use Rattle.bits.specs.Vectors.{Vector, weight}
use Rattle.keys.specs.Sound.{zero_at}
use Rattle.soundness.proofs.Counting.{weight_start, weight_le, weight_split}
use Rattle.soundness.proofs.values.zeros_in_field.Goals as goal

pub loop-first-init : goal.loop-first-init
loop-first-init g c = (omega arith, sym (weight_start (zero_at g.F.Field.ops g.F.Field.places c.args.g.now)))

pub overflow_add-found : goal.overflow_add-found
overflow_add-found g c =
    let v : Vector = zero_at g.F.Field.ops g.F.Field.places c.args.g.now in
    let some = c.min-some.result in
    let first = c.loop-first.first in
    let le : first + some ≤ c.size-size.result = omega arith in
    let more : c.zeros_from-found.result ≡ weight some (λ i. v (first + i)) = c.zeros_from-found.ensures ∙ ap (λ n. weight n (λ i. v (first + i))) (omega arith) in
    omega (arith, weight_le first v, weight_le some (λ i. v (first + i)))

pub loop-first-preserved : goal.loop-first-preserved
loop-first-preserved g c =
    let v : Vector = zero_at g.F.Field.ops g.F.Field.places c.args.g.now in
    let some = c.min-some.result in
    let first = c.loop-first.first in
    let le : first + some ≤ c.size-size.result = omega arith in
    let more : c.zeros_from-found.result ≡ weight some (λ i. v (first + i)) = c.zeros_from-found.ensures ∙ ap (λ n. weight n (λ i. v (first + i))) (omega arith) in
    (le, ap₂ (λ x y. x + y) c.loop-first.invariant.1 more ∙ sym (weight_split first some v))
