use Rattle.std.proofs.Common.{◌≡◌, true, length, get_or, take, replicate, sym, refl, ap, ◌∙◌, arith, rules}
use Rattle.std.proofs.lemmas.List.{get_or-take, length-take-le}
use Rattle.bits.proofs.Sums.{and_yes}
use Rattle.bits.proofs.Packing.{packed_is}
use Rattle.shuffles.specs.Orders.{place_of}
use Rattle.shuffles.proofs.Orders.{Filled, filled_none, filled_more, at_place, place_of_lem, among_first}
use Rattle.shuffles.proofs.Marks.{weight_among}
use Rattle.shuffles.proofs.mark.Goals as goal

pub loop-p-init : goal.loop-p-init
loop-p-init c =
    let e : c.fill.new.self ≡ replicate (length c.args.out.now) 0 = search rules in
    (filled_none (length c.args.order.now) (length c.args.out.now) _ _ c.fill.new.self e, λ k. (c.type_inv.out k).fits)

pub loop-p-preserved : goal.loop-p-preserved
loop-p-preserved c =
    let l = c.args.order.now in
    let k = c.loop-p.p-index in
    let long : length (take c.args.t l) ≡ c.args.t = length-take-le c.args.t l (omega arith) in
    let e : get_or (take c.args.t l) k 0 ≡ get_or l k 0 = get_or-take c.args.t l k 0 (omega (arith, long)) in (
      filled_more (length l) (place_of l) (λ _. true) k (get_or (take c.args.t l) k 0) true c.loop-p.out c.add_bit.new.v
          (ap (place_of l) e ∙ place_of_lem (length l) l c.requires.permutes k (omega (arith, long)))
          (λ i m q. sym (at_place (length l) l c.requires.permutes i m) ∙ (ap (λ p. get_or l p 0) q ∙ sym e)) refl c.add_bit.ensures c.loop-p.invariant.0,
      λ p. (c.type_inv.out p).fits,
    )

pub returns : goal.returns
unfolding Filled
returns c =
    let l = c.args.order.now in
    let long : length (take c.args.t l) ≡ c.args.t = length-take-le c.args.t l (omega arith) in
    let e : c.loop-p.p-index ≡ c.args.t = omega (arith, long) in
    record {
      after =
          packed_is (length c.args.out.now) _ c.loop-p.out (omega arith) c.loop-p.invariant.1
          (λ i m. (rw e at c.loop-p.invariant.0) i (omega arith)
          ∙ (and_yes _ ∙ sym (among_first (length l) l c.requires.permutes c.args.t i (omega arith))));
      weighs = weight_among (length l) l c.requires.permutes c.args.t (omega arith);
    }
