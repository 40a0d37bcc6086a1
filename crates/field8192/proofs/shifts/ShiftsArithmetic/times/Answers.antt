use Rattle.std.proofs.Common.{◌≡◌, ℕ, ◌+◌, ◌*◌, ◌/◌, ◌<◌, ◌≤◌, sym, ap, ◌∙◌, subst, ap₂, add-one, arith}
use lib.Bits.{bit_xor}
use Rattle.std.proofs.lemmas.Nat.{mul-le}
use Rattle.field8192.specs.Folds.{folded, grouped}
use Rattle.field8192.proofs.Quick.{grouped_is, grouped_below, highest}
use Rattle.field8192.proofs.shifts.ShiftsArithmetic.times.Goals as goal

pub overflow_mul-r : goal.overflow_mul-r
overflow_mul-r c =
    let h : c.args.a * (c.args.b / 4096) ≤ 8191 * 1 = mul-le c.args.a (c.args.b / 4096) 8191 1 (omega arith) (omega arith) in
    record { fits = omega arith }

pub loop-i-init : goal.loop-i-init
loop-i-init c =
    let is = highest c.args.a c.args.b c.requires.1 in
    (is, subst (λ (n : ℕ). n < 8192) (sym is) (grouped_below 0 c.args.a c.args.b c.requires.0))

pub loop-i-preserved : goal.loop-i-preserved
unfolding grouped
loop-i-preserved c =
    let is =
    c.fold-r.ensures
    ∙ ap folded (ap₂ bit_xor (ap (λ (x : ℕ). x * 8) c.loop-i.invariant.0) c.carryless.ensures)
    ∙ ap (λ (n : ℕ). grouped n c.args.a c.args.b) (sym (add-one c.loop-i.i))
    in
    (is, subst (λ (n : ℕ). n < 8192) (sym is) (grouped_below (c.loop-i.i + 1) c.args.a c.args.b c.requires.0))

pub returns : goal.returns
returns c =
    let e : c.loop-i.i ≡ 4 = omega arith in
    record {
      is = c.loop-i.invariant.0 ∙ ap (λ (n : ℕ). grouped n c.args.a c.args.b) e ∙ grouped_is c.args.a c.args.b c.requires.0 c.requires.1;
      below = c.loop-i.invariant.1;
    }
