use Rattle.std.proofs.Common.{ℕ, ◌-◌, ◌*◌, List, ◌++◌, length, drop, ◌∙◌, ap₂, arith}
use Rattle.bits.proofs.Joined.{two_copies}
use Rattle.keys.proofs.writing.write_elements.Goals as goal

pub returns : goal.returns
returns c =
    let n = 2 * length c.args.support.now in
    two_copies n c.write_words.new.out c.write_words-2.new.out (drop (n - 0) c.args.out.now) (omega arith)
    ∙ ap₂ (λ (x y : List ℕ). x ++ y) c.write_words.ensures.bytes c.write_words-2.ensures.bytes
