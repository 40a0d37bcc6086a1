use Rattle.std.proofs.Common.{ℕ, ◌+◌, ◌-◌, ◌*◌, List, ◌++◌, take, drop, ap, ◌∙◌, ap₂, append_assoc, arith}
use Rattle.bits.specs.Packed.{matrix}
use Rattle.bits.specs.Words.{word_bytes}
use Rattle.bits.specs.Rows.{matrix_bytes}
use Rattle.bits.proofs.Joined.{two_copies}
use Rattle.keys.specs.Secret.{written}
use Rattle.keys.proofs.writing.write_secret.Goals as goal

pub returns : goal.returns
unfolding written
returns c =
    let s = c.args.sizes.now in
    let n = 2 * s.n + 2 * s.t in
    two_copies n c.write_elements.new.out c.write_rest.new.out (drop (n - 0) c.args.out.now) (omega arith)
    ∙ (ap₂ (λ (x y : List ℕ). x ++ y)
    (c.write_elements.ensures ∙ ap (λ k. word_bytes c.args.support.now ++ word_bytes (take k c.args.g.now)) (omega arith)) c.write_rest.ensures
    ∙ append_assoc (word_bytes c.args.support.now) (word_bytes (take s.t c.args.g.now))
    (matrix_bytes s.rows s.body (matrix s.vector c.args.hp.now) ++ (c.args.mixing.now ++ c.args.decoy.now)))
