use Rattle.std.proofs.Common.{◌-◌, ◌≤◌, length, get_or, take, sym, arith}
use Rattle.std.proofs.lemmas.List.{length-take-le}
use Rattle.bits.proofs.Search.{first_before}
use Rattle.keys.specs.Sound.{zero_at}
use Rattle.soundness.proofs.Numbers.{support_number, coefficient_number, clash_number, zeros_number}
use Rattle.soundness.proofs.Chains.{support_fails, coefficient_fails, clash_fails, zeros_fail, code_passes}
use Rattle.soundness.proofs.Sound.{no_zero}
use Rattle.soundness.proofs.check_code.Goals as goal

pub returns-in-Some : goal.returns-in-Some
returns-in-Some g c =
    let s = c.args.sizes.now in
    let key = c.args.key.now in
    let f = g.F.Field.ops in
    let pl = g.F.Field.places in
    let sup = c.read_code.new.support in
    let gs = c.read_code.new.g in
    let es = c.read_code.ensures.support in
    let eg = c.read_code.ensures.g in
    let at = c.in-Some.at in
    let h = c.in-Some.ensures in
    support_fails f pl s key at (support_number f pl s key sup gs es eg c.size-size.result at c.size-size.ensures h.1) (omega (arith, h.0))

pub returns-in-Some-first_outside : goal.returns-in-Some-first_outside
returns-in-Some-first_outside g c =
    let s = c.args.sizes.now in
    let key = c.args.key.now in
    let f = g.F.Field.ops in
    let pl = g.F.Field.places in
    let sup = c.read_code.new.support in
    let gs = c.read_code.new.g in
    let es = c.read_code.ensures.support in
    let eg = c.read_code.ensures.g in
    let n₁ = length sup in
    let e₁ = support_number f pl s key sup gs es eg c.size-size.result n₁ c.size-size.ensures (sym c.in_default.ensures) in
    let l₁ : s.n ≤ n₁ = omega arith in
    let at = c.in-Some-first_outside.at in
    let h = c.in-Some-first_outside.ensures in
    let e = coefficient_number f pl s key sup gs es eg c.size-size.result at (s.t - 0) c.size-size.ensures (omega arith) h.1 in
    coefficient_fails f pl s key n₁ e₁ l₁ at e (omega (arith, h.0, length-take-le (s.t - 0) gs (omega arith)))

pub returns-in-Some-first_clash : goal.returns-in-Some-first_clash
returns-in-Some-first_clash g c =
    let s = c.args.sizes.now in
    let key = c.args.key.now in
    let f = g.F.Field.ops in
    let pl = g.F.Field.places in
    let sup = c.read_code.new.support in
    let gs = c.read_code.new.g in
    let es = c.read_code.ensures.support in
    let eg = c.read_code.ensures.g in
    let n₁ = length sup in
    let e₁ = support_number f pl s key sup gs es eg c.size-size.result n₁ c.size-size.ensures (sym c.in_default.ensures) in
    let l₁ : s.n ≤ n₁ = omega arith in
    let n₂ = length (take (s.t - 0) gs) in
    let e₂ = coefficient_number f pl s key sup gs es eg c.size-size.result n₂ (s.t - 0) c.size-size.ensures (omega arith) (sym c.in_default-first_outside.ensures) in
    let l₂ : s.t ≤ n₂ = omega (arith, length-take-le (s.t - 0) gs (omega arith)) in
    let at = c.in-Some-first_clash.at in
    let h = c.in-Some-first_clash.ensures in
    clash_fails f pl s key n₁ e₁ l₁ n₂ e₂ l₂ at (clash_number f pl s key sup gs es eg at h.1) (omega (arith, h.0))

pub returns-then-found-sizes : goal.returns-then-found-sizes
returns-then-found-sizes g c =
    let s = c.args.sizes.now in
    let key = c.args.key.now in
    let f = g.F.Field.ops in
    let pl = g.F.Field.places in
    let sup = c.read_code.new.support in
    let gs = c.read_code.new.g in
    let es = c.read_code.ensures.support in
    let eg = c.read_code.ensures.g in
    let n₁ = length sup in
    let e₁ = support_number f pl s key sup gs es eg c.size-size.result n₁ c.size-size.ensures (sym c.in_default.ensures) in
    let l₁ : s.n ≤ n₁ = omega arith in
    let n₂ = length (take (s.t - 0) gs) in
    let e₂ = coefficient_number f pl s key sup gs es eg c.size-size.result n₂ (s.t - 0) c.size-size.ensures (omega arith) (sym c.in_default-first_outside.ensures) in
    let l₂ : s.t ≤ n₂ = omega (arith, length-take-le (s.t - 0) gs (omega arith)) in
    let n₃ = length sup in
    let e₃ = clash_number f pl s key sup gs es eg n₃ (sym c.in_default-first_clash.ensures) in
    let l₃ : s.n ≤ n₃ = omega arith in
    let e₄ = zeros_number f pl s key sup gs es eg c.zeros_in_field-found.result c.zeros_in_field-found.ensures in
    zeros_fail f pl s key n₁ e₁ l₁ n₂ e₂ l₂ n₃ e₃ l₃ c.zeros_in_field-found.result e₄ c.if-found-sizes.true

pub returns : goal.returns
returns g c =
    let s = c.args.sizes.now in
    let key = c.args.key.now in
    let f = g.F.Field.ops in
    let pl = g.F.Field.places in
    let sup = c.read_code.new.support in
    let gs = c.read_code.new.g in
    let es = c.read_code.ensures.support in
    let eg = c.read_code.ensures.g in
    let n₁ = length sup in
    let e₁ = support_number f pl s key sup gs es eg c.size-size.result n₁ c.size-size.ensures (sym c.in_default.ensures) in
    let l₁ : s.n ≤ n₁ = omega arith in
    let n₂ = length (take (s.t - 0) gs) in
    let e₂ = coefficient_number f pl s key sup gs es eg c.size-size.result n₂ (s.t - 0) c.size-size.ensures (omega arith) (sym c.in_default-first_outside.ensures) in
    let l₂ : s.t ≤ n₂ = omega (arith, length-take-le (s.t - 0) gs (omega arith)) in
    let n₃ = length sup in
    let e₃ = clash_number f pl s key sup gs es eg n₃ (sym c.in_default-first_clash.ensures) in
    let l₃ : s.n ≤ n₃ = omega arith in
    let e₄ = zeros_number f pl s key sup gs es eg c.zeros_in_field-found.result c.zeros_in_field-found.ensures in
    (code_passes f pl s key n₁ e₁ l₁ n₂ e₂ l₂ n₃ e₃ l₃ c.zeros_in_field-found.result e₄ c.if-found-sizes.false, (es, eg))

pub invariant_of-result : goal.invariant_of-result
invariant_of-result g c =
    let f = g.F.Field.ops in
    let pl = g.F.Field.places in
    let sup = c.read_code.new.support in
    let gs = c.read_code.new.g in
    record {
      off = λ k l.
          no_zero f pl g.met.F.Field.origin gs (get_or sup k 0)
          (first_before (length sup) (λ j. zero_at f pl gs (get_or sup j 0)) k (omega (arith, c.in_default-first_clash.ensures)));
    }
