use mathlib.Core.Path.{◌≡◌, sym, ap, subst, ◌∙◌}
use Prim.Native.Nat.{ℕ, ◌-◌, ◌%◌, ◌<◌}
use lib.ListN.{get_or}
use Rattle.field64.specs.Tables.{inv64, powers}
use Rattle.field64.specs.Tests.{inverse_below}
use Rattle.field64.proofs.tables.TablesArithmetic.inverse_of.Goals as goal

pub returns : goal.returns
unfolding inv64
returns c =
    let is : c.power.result ≡ inv64 c.args.a = c.power.ensures ∙ ap (λ l. get_or powers ((63 - l) % 63) 0) c.log.ensures.is in
    record { is = is; below = subst (λ (n : ℕ). n < 64) (sym is) (inverse_below c.args.a c.requires) }
