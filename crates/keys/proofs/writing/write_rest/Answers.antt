use Rattle.std.proofs.Common.{ℕ, ◌-◌, ◌*◌, List, ◌++◌, drop, ◌∙◌, ap₂, arith}
use Rattle.bits.proofs.Joined.{two_copies}
use Rattle.keys.proofs.writing.write_rest.Goals as goal

pub returns : goal.returns
returns c =
    let s = c.args.sizes.now in
    let n = s.rows * s.body in
    two_copies n c.write_front.new.out c.write_seeds.new.out (drop (n - 0) c.args.out.now) (omega arith)
    ∙ ap₂ (λ (x y : List ℕ). x ++ y) c.write_front.ensures c.write_seeds.ensures
