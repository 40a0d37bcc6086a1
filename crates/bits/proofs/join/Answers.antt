use Rattle.std.proofs.Common.{ℕ, List, ◌++◌, length, drop, ap, ◌∙◌, ap₂}
use Rattle.bits.proofs.Joined.{two_copies}
use Rattle.bits.proofs.join.Goals as goal

pub returns : goal.returns
returns c =
    let n = length c.args.first.now in
    two_copies n c.copy_from_slice.new.self c.copy_from_slice-2.new.self (drop n c.args.out.now) (ap length c.copy_from_slice.ensures.after)
    ∙ ap₂ (λ (x y : List ℕ). x ++ y) c.copy_from_slice.ensures.after c.copy_from_slice-2.ensures.after
