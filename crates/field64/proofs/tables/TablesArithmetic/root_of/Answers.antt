use mathlib.Core.Path.{◌≡◌, sym, ap, subst, ◌∙◌}
use Prim.Native.Nat.{ℕ, ◌+◌, ◌*◌, ◌/◌, ◌%◌, ◌<◌}
use native.Mathlib.Omega.{arith}
use lib.Dec.{lit<}
use lib.ListN.{get_or}
use Rattle.field64.specs.Tables.{root64, powers}
use Rattle.field64.specs.Tests.{root_positive, root_below}
use Rattle.field64.proofs.tables.TablesArithmetic.root_of.Goals as goal

pub returns-then-a-eq0 : goal.returns-then-a-eq0
unfolding root64
returns-then-a-eq0 c = record { is = sym (ap root64 c.if-a-eq0.true); below = lit< tt }

pub returns : goal.returns
returns c =
    let is : c.power.result ≡ root64 c.args.a =
    c.power.ensures ∙ ap (λ l. get_or powers ((l + l % 2 * 63) / 2 % 63) 0) c.log-l.ensures.is ∙ sym (root_positive c.args.a (omega arith))
    in
    record { is = is; below = subst (λ (n : ℕ). n < 64) (sym is) (root_below c.args.a c.requires) }
