use Rattle.std.proofs.Common.{rules, ◌≡◌, ℕ, zero, suc, ◌+◌, ◌^◌, ◌<◌, List, [], map, reverse, length, get_or, set, replicate, sym, refl, ap, ap₂, ◌∙◌, subst, arith, length-set, pow_pos}
use Rattle.std.proofs.lemmas.List.{length-map, length-reverse, reverse-reverse, map_push}
use Rattle.std.proofs.lemmas.Iterator.Adapters.{YieldsList-from_rev_slice}
use Rattle.std.proofs.lemmas.Iterator.Consumers.{YieldsList-turn, YieldsList-end}
use Rattle.algebra.specs.Field.{Ops}
use Rattle.polys.specs.Coefs.{poly, coefs, mono}
use Rattle.polys.proofs.Lists.{coefs_zeros, write_new, get_d_zeros}
use Rattle.polys.proofs.Rule.{one_write}
use Rattle.goppa.specs.Zeros.{linear, from_zeros}
use Rattle.goppa.proofs.Roots.{from_more, from_monic, value_from, zeros_are}
use Rattle.goppa.proofs.zeros.goppa_polynomial.Goals as goal

one_place : (w n : ℕ) (l : List ℕ) (b : ℕ) → l ≡ replicate n 0 → w < b → 0 < b → (j : ℕ) → get_or (set l 0 w) j 0 < b
one_place w zero l b e h pos j = subst (λ (q : List ℕ). get_or (set q 0 w) j 0 < b) (sym e) pos
one_place w (suc n) l b e h pos zero = subst (λ (q : List ℕ). get_or (set q 0 w) 0 0 < b) (sym e) h
one_place w (suc n) l b e h pos (suc j) = subst (λ (q : List ℕ). get_or (set q 0 w) (suc j) 0 < b) (sym e) (subst (λ (x : ℕ). x < b) (sym (get_d_zeros n j)) pos)

none_yet : {A : Type 0} (f : Ops A) → from_zeros f [] ≡ (poly f).one
unfolding from_zeros
none_yet f = refl

pub loop-b-init : goal.loop-b-init
loop-b-init g c =
    let k = g.met.F.Field.laws in
    let f = g.F.Field.ops in
    let pl = g.F.Field.places in
    let z = g.met.F.Field.origin in
    let cleared = c.fill.new.self in
    let zeros : cleared ≡ replicate (length c.args.g.now) 0 = search rules in
    let none : coefs pl cleared ≡ (poly f).zero = ap (coefs pl) zeros ∙ coefs_zeros k pl z (length c.args.g.now) in
    let wrote = write_new k pl z cleared 0 c.place.result c.one.result (omega arith) (ap (λ l. get_or l 0 0) zeros ∙ get_d_zeros (length c.args.g.now) 0) c.place.ensures in (
      one_write k (coefs pl cleared) _ none (wrote ∙ ap (λ x. (poly f).add (coefs pl cleared) (mono f x 0)) c.one.ensures) ∙ sym (none_yet f),
      λ j. one_place c.place.result (length c.args.g.now) cleared (2 ^ g.F.Field.BITS) zeros (subst (λ (x : ℕ). x < 2 ^ g.F.Field.BITS) (sym c.place.ensures) (pl.num_below c.one.result)) (pow_pos g.F.Field.BITS) j,
    )

-- before a turn the last coefficient is zero
pub times_linear-requires : goal.times_linear-requires
times_linear-requires g c =
    let k = g.met.F.Field.laws in
    let f = g.F.Field.ops in
    let pl = g.F.Field.places in
    let seen = map (λ y. y.now) c.loop-b.yielded in
    let zs = c.args.zeros.now in
    let turn = YieldsList-turn (YieldsList-from_rev_slice zs (cc)) c.loop-b.yielded _ c.loop-b.yielded_by _ _ c.in-Some.field-0 c.in-Some.is c.next.ensures.steps in
    let more : length c.loop-b.yielded < length zs = rw length-reverse at turn.0 in
    let l = map pl.at (reverse seen) in
    let long : length l ≡ length c.loop-b.yielded = length-map (reverse seen) pl.at ∙ length-reverse seen ∙ length-map c.loop-b.yielded (λ y. y.now) in
    let whole : length c.loop-b.g ≡ length zs + 1 = omega (arith, length-set c.fill.new.self 0 c.place.result) in (
      omega arith,
      λ j h. ap (λ p. p j) c.loop-b.invariant.0 ∙ (from_monic k l).under j (omega arith),
    )

pub loop-b-preserved : goal.loop-b-preserved
loop-b-preserved g c =
    let f = g.F.Field.ops in
    let pl = g.F.Field.places in
    let seen = map (λ y. y.now) c.loop-b.yielded in (
      c.times_linear.ensures.product
          ∙ ap₂ (λ a p. (poly f).mul (linear f a) p) c.read.ensures c.loop-b.invariant.0
          ∙ sym (ap (λ (l : List ℕ). from_zeros f (map pl.at (reverse l))) (map_push (λ y. y.now) c.loop-b.yielded c.in-Some.field-0)
          ∙ from_more g.met.F.Field.laws pl g.met.F.Field.origin seen c.in-Some.field-0.now),
      c.times_linear.ensures.written,
    )

pub returns : goal.returns
returns g c =
    let k = g.met.F.Field.laws in
    let f = g.F.Field.ops in
    let pl = g.F.Field.places in
    let z = g.met.F.Field.origin in
    let zs = c.args.zeros.now in
    let all = YieldsList-end (YieldsList-from_rev_slice zs (cc)) c.loop-b.yielded _ c.loop-b.yielded_by _ _ c.in-None.is c.next.ensures.steps in
    let is : coefs pl c.loop-b.g ≡ from_zeros f (map pl.at zs) = c.loop-b.invariant.0 ∙ ap (λ (l : List ℕ). from_zeros f (map pl.at l)) (ap reverse all.0 ∙ reverse-reverse zs) in
    let old = from_monic k (map pl.at zs) in
    let long = length-map zs pl.at in
    record {
      product = is;
      monic = record {
        top = ap (λ p. p (length zs)) is ∙ ap (from_zeros f (map pl.at zs)) (sym long) ∙ old.top;
        under = λ j h. ap (λ p. p j) is ∙ old.under j (omega arith);
      };
      values = value_from k pl z c.loop-b.g zs is;
      zeros = zeros_are k pl z c.loop-b.g zs is;
      written = c.loop-b.invariant.1;
    }
