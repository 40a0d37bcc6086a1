use Rattle.std.proofs.Common.{◌≡◌, length, replicate, ap, ◌∙◌, arith, rules}
use Rattle.bits.specs.Packed.{vector}
use Rattle.bits.proofs.Places.{zeros_vector}
use Rattle.decoder.proofs.candidates.mark_zeros.Goals as goal

pub loop-j-init : goal.loop-j-init
loop-j-init g c =
    let e : c.fill.new.self ≡ replicate (length c.args.out.now) 0 = search rules in
    (λ i l. absurd (omega arith), λ i l. ap (λ bs. vector bs i) e ∙ zeros_vector (length c.args.out.now) i)
