use Rattle.std.proofs.Common.{List, ℕ, take, sym, ap, ◌∙◌, arith}
use Rattle.sha3.specs.Sponge.{all_bytes}
use Rattle.sha3.specs.Outcomes.{sponge_last}
use Rattle.sha3.proofs.sponge.SpongeBlockFunction72.close.Goals as goal

pub returns : goal.returns
returns c =
    c.squeeze.ensures
    ∙ ap (λ (a : List ℕ). take 32 (take 64 (all_bytes a))) c.absorb.ensures
    ∙ ap (take 32) (sym (sponge_last c.args.self.now.state c.args.rest.now c.pad.result c.requires.short (omega arith) c.pad.ensures))
