use mathlib.Core.Path.{◌≡◌, sym, ap, ap₂, subst, ◌∙◌}
use mathlib.Core.Logic.{inl, inr}
use Prim.Native.Nat.{ℕ, ◌+◌, ◌%◌, ◌<◌}
use native.Mathlib.Omega.{arith}
use lib.Dec.{lit<}
use lib.ListN.{get_or}
use Rattle.field64.specs.Tables.{mul64, powers}
use Rattle.field64.specs.Tests.{product_rule}
use Rattle.field64.specs.Laws.{below64, zero_left, zero_right}
use Rattle.field64.proofs.tables.TablesArithmetic.times.Goals as goal

pub returns-then-a-eq0 : goal.returns-then-a-eq0
returns-then-a-eq0 c =
    record {
      is = elim c.then-a-eq0.either [
        | inl e ↦ sym (ap (λ x. mul64 x c.args.b) e ∙ zero_left c.args.b)
        | inr w ↦ sym (ap (mul64 c.args.a) w.1 ∙ zero_right c.args.a)
      ];
      below = lit< tt;
    }

pub returns : goal.returns
returns c =
    let is : c.power.result ≡ mul64 c.args.a c.args.b =
    c.power.ensures ∙ ap₂ (λ l k. get_or powers ((l + k) % 63) 0) c.log.ensures.is c.log-2.ensures.is
    ∙ product_rule c.args.a c.args.b (omega arith) (omega arith) (omega arith) (omega arith)
    in
    record { is = is; below = subst (λ (n : ℕ). n < 64) (sym is) (below64 c.args.a c.args.b (omega arith)) }
