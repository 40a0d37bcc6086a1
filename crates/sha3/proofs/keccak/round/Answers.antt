use Rattle.std.proofs.Common.{ℕ, List, ap, ◌∙◌}
use Rattle.sha3.specs.Keccak.{round, rho, pi, chi, iota}
use Rattle.sha3.proofs.keccak.round.Goals as goal

pub returns : goal.returns
unfolding round
returns c =
    ap (λ (x : List ℕ). iota x c.args.rc)
    (c.chi.ensures ∙ ap chi (c.pi.ensures ∙ ap pi (c.rho.ensures ∙ ap rho c.theta.ensures)))
