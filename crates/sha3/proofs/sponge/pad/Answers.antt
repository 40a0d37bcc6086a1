use Rattle.std.proofs.Common.{◌++◌, length, refl, ap₂}
use Rattle.std.proofs.lemmas.List.{drop-replicate}
use Rattle.sha3.specs.Blocks.{pad}
use Rattle.sha3.proofs.sponge.pad.Goals as goal

pub returns : goal.returns
returns c =
    pad c.args.rest.now _ (length c.args.rest.now) c.requires refl
    (ap₂ (λ x y. x ++ y) c.copy_from_slice.ensures.after (drop-replicate (length c.args.rest.now) 72 0))
