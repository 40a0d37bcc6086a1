use Rattle.std.proofs.Common.{◌++◌, length, refl, ap₂}
use Rattle.std.proofs.lemmas.List.{drop-replicate}
use Rattle.sha512.specs.Blocks.{close}
use Rattle.sha512.proofs.padding.closed.Goals as goal

pub returns : goal.returns
returns c =
    close c.args.rest.now _ (length c.args.rest.now) c.requires refl
    (ap₂ (λ x y. x ++ y) c.copy_from_slice.ensures.after (drop-replicate (length c.args.rest.now) 128 0))
