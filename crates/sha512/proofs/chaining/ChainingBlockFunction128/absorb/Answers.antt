use Rattle.std.proofs.Common.{◌≡◌, ◌+◌, ◌*◌, take, ap, ap₂, ◌∙◌, arith}
use Rattle.std.proofs.Math.Path.{fun_ext}
use Rattle.sha512.specs.Sha512.{digest_from}
use Rattle.sha512.specs.Takes.{goes_block}
use Rattle.sha512.proofs.chaining.ChainingBlockFunction128.absorb.Goals as goal

pub returns : goal.returns
returns c = λ k.
    let n : 128 * (k + 1) ≡ 128 * k + 128 = omega arith in
    fun_ext (λ xs. ap (take 32) (ap₂ (λ h j. digest_from h j xs) c.compress_block.ensures n
    ∙ goes_block c.args.self.now.value c.args.block.now xs (128 * k) (omega arith)))
