use Rattle.std.proofs.Common.{take, sym, ap, ◌∙◌, arith}
use Rattle.std.proofs.Math.Path.{fun_ext}
use Rattle.sha3.specs.Sponge.{sponge}
use Rattle.sha3.specs.Outcomes.{sponge_block}
use Rattle.sha3.proofs.sponge.SpongeBlockFunction72.absorb.Goals as goal

pub returns : goal.returns
returns c = λ k. fun_ext (λ xs. ap (take 32) (ap (λ a. sponge a xs) c.absorb.ensures ∙ sym (sponge_block c.args.self.now.state c.args.block.now xs (omega arith))))
