use Rattle.std.proofs.Common.{◌≡◌, ℕ, suc, ◌+◌, ◌-◌, ◌*◌, ◌/◌, ◌<◌, ◌≤◌, length, sym, ap, ◌∙◌, arith}
use Rattle.polys.specs.Coefs.{coefs}
use Rattle.polys.specs.Values.{value}
use Rattle.polys.proofs.Rule.{below_mul}
use Rattle.patterson.specs.Code.{Perfect}
use Rattle.patterson.proofs.Numbered.{same_from}
use Rattle.decoding.proofs.Values.{poly_of}
use Rattle.decoding.proofs.Located.{none_found, located}
use Rattle.decoding.proofs.locate.find_locator.Goals as goal

perfect : (g : Rattle.decoding.proofs.locate.find_locator.Given.Over) → Perfect g.F.Field.ops
perfect g = record { laws = g.met.F.Field.laws; same = same_from g.F.Field.places; roots = g.met.F.BinaryField.roots }

pub returns-then-not-within_bounds : goal.returns-then-not-within_bounds
returns-then-not-within_bounds g c =
    let f = g.F.Field.ops in
    let pl = g.F.Field.places in
    let x = c.prepare-n1.new in
    λ zs sup code.
    none_found (perfect g) c.args.t c.requires.code.1.1.1.0 (value f pl c.args.g.now) (value f pl c.args.s.now) (value f pl x.v) zs sup code
    c.prepare-n1.result.0 c.prepare-n1.result.1 (value f pl x.g1) (value f pl x.g2) (value f pl x.s1) (value f pl x.v2) (value f pl x.g12)
    (c.prepare-n1.ensures.prepared zs code.splits.zeros) c.if-not-within_bounds.ensures

pub key_root-requires : goal.key_root-requires
key_root-requires g c =
    let t = c.args.t in
    let x = c.prepare-n1.new in
    let n1 = c.prepare-n1.result.0 in
    let n2 = c.prepare-n1.result.1 in
    let ok : (n1 < suc t / 2) × (n2 ≤ t / 2) = c.if-not-within_bounds.ensures in
    let two : 2 ≤ t = c.requires.code.1.1.1.0 in
    let kept = c.prepare-n1.auto in
    let l12 : length x.g12 ≡ t + 1 = kept.g12 ∙ c.requires.quotients.0 in
    let e12 : t + 1 ≡ length x.g12 = sym l12 in
    let few : n1 + n2 < t = omega (arith, ok.0, ok.1) in
    record {
      fits = (omega arith, (omega arith, (kept.g1 ∙ c.requires.divisors.1.0 ∙ e12, kept.g2 ∙ c.requires.divisors.1.1.0 ∙ e12)));
      quotients = (kept.s1 ∙ c.requires.divisors.1.1.1.0 ∙ e12, (kept.v2 ∙ c.requires.divisors.1.1.1.1 ∙ e12, (kept.v ∙ c.requires.divisors.0 ∙ e12, (c.requires.quotients.1.0 ∙ e12, c.requires.quotients.1.1.0 ∙ e12))));
      parts = (c.requires.quotients.1.1.1.0 ∙ e12, (c.requires.quotients.1.1.1.1 ∙ e12, (kept.r ∙ c.requires.work.0 ∙ e12, (kept.a ∙ c.requires.work.1.0 ∙ e12, kept.b ∙ c.requires.work.1.1.0 ∙ e12))));
      work = (kept.wide ∙ c.requires.work.1.1.1.0 ∙ ap (λ (n : ℕ). 2 * n) e12, c.requires.work.1.1.1.1 ∙ ap (λ (n : ℕ). 2 * n) e12);
      degree = c.prepare-n1.ensures.degree_rest (omega arith);
    }

pub join_parts-requires : goal.join_parts-requires
join_parts-requires g c =
    let k = g.met.F.Field.laws in
    let pl = g.F.Field.places in
    let t = c.args.t in
    let x = c.prepare-n1.new in
    let y = c.key_solution.new in
    let n1 = c.prepare-n1.result.0 in
    let n2 = c.prepare-n1.result.1 in
    let d = c.key_solution.result in
    let ok : (n1 < suc t / 2) × (n2 ≤ t / 2) = c.if-not-within_bounds.ensures in
    let high : t / 2 - n2 + 1 ≤ d = c.key_solution.ensures.high.0 in
    let lr : length y.r ≡ t + 1 = c.key_solution.auto.r ∙ c.key_root.auto.r ∙ c.prepare-n1.auto.r ∙ c.requires.work.0 in
    let lb : length y.b ≡ t + 1 = c.key_solution.auto.b ∙ c.key_root.auto.b ∙ c.prepare-n1.auto.b ∙ c.requires.work.1.1.0 in
    let l1 : length x.g1 ≡ t + 1 = c.prepare-n1.auto.g1 ∙ c.requires.divisors.1.0 in
    let l2 : length x.g2 ≡ t + 1 = c.prepare-n1.auto.g2 ∙ c.requires.divisors.1.1.0 in
    let lw : length c.key_root.new.wide ≡ 2 * (t + 1) = c.key_root.auto.wide ∙ c.prepare-n1.auto.wide ∙ c.requires.work.1.1.1.0 in
    let lq : length c.key_root.new.quot ≡ 2 * (t + 1) = c.key_root.auto.quot ∙ c.requires.work.1.1.1.1 in
    record {
      fits = (omega (arith, lr, l2, lw), (omega (arith, lb, l1, lq), (omega (arith, lw), (omega (arith, lq), c.requires.code.1.1.1.1))));
      under = (
        λ j h. below_mul k (t / 2 - n2) (suc n2) (coefs pl y.r) (coefs pl x.g2) (λ i u. c.key_solution.ensures.low.0 i (omega (arith, u))) c.prepare-n1.ensures.degree_2.1 j (omega (arith, h, ok.1)),
        λ j h. below_mul k (t - (n1 + n2) - d) (suc n1) (coefs pl y.b) (coefs pl x.g1) c.key_solution.ensures.low.1 c.prepare-n1.ensures.degree_1.1 j (omega (arith, h, ok.0, ok.1, high)),
      );
    }

pub returns : goal.returns
returns g c =
    let k = g.met.F.Field.laws in
    let f = g.F.Field.ops in
    let pl = g.F.Field.places in
    let z = g.met.F.Field.origin in
    let t = c.args.t in
    let x = c.prepare-n1.new in
    let y = c.key_solution.new in
    let n1 = c.prepare-n1.result.0 in
    let n2 = c.prepare-n1.result.1 in
    let d = c.key_solution.result in
    let ok : (n1 < suc t / 2) × (n2 ≤ t / 2) = c.if-not-within_bounds.ensures in
    let high : t / 2 - n2 + 1 ≤ d = c.key_solution.ensures.high.0 in
    λ zs sup code.
    located (perfect g) t c.requires.code.1.1.1.0 (value f pl c.args.g.now) (value f pl c.args.s.now) (value f pl x.v) zs sup code n1 n2
    (value f pl x.g1) (value f pl x.g2) (value f pl x.s1) (value f pl x.v2) (value f pl x.g12) (c.prepare-n1.ensures.prepared zs code.splits.zeros)
    (value f pl y.r) (value f pl y.b) (value f pl c.key_root.new.out) d (value f pl y.s) (value f pl y.a) (value f pl c.join_parts.new.out)
    c.key_root.ensures.root c.key_solution.ensures.state (poly_of k pl z y.r (suc (t / 2 - n2)) (λ i u. c.key_solution.ensures.low.0 i (omega (arith, u))))
    (omega (arith, ok.1, high)) c.join_parts.ensures
