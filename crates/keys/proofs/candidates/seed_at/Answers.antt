use Rattle.std.proofs.Common.{ℕ, ◌/◌, List, [], get_or, length, ap, ◌∙◌}
use Rattle.keys.proofs.Steps.{chunk_at}
use Rattle.keys.proofs.candidates.seed_at.Goals as goal

pub returns : goal.returns
returns c =
    let n = length c.args.seeds.now / 32 in
    ap (λ (cs : List (List ℕ)). get_or cs c.args.i []) c.as_chunks.ensures.front ∙ chunk_at n c.args.i c.args.seeds.now c.requires
