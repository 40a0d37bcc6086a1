use Rattle.std.proofs.Common.{◌≡◌, ℕ, ◌<◌, length, get_or, replicate, sym, ap, ◌∙◌, arith, rules}
use Rattle.bits.specs.Packed.{vector}
use Rattle.shuffles.specs.Orders.{place_of, perm}
use Rattle.shuffles.proofs.Orders.{filled_none, filled_more, filled_all, filled_packed, place_below, at_place, place_of_lem}
use Rattle.shuffles.proofs.permute.Goals as goal

pub loop-j-init : goal.loop-j-init
loop-j-init c =
    let e : c.fill.new.self ≡ replicate (length c.args.out.now) 0 = search rules in
    (filled_none (length c.args.order.now) (length c.args.out.now) _ _ c.fill.new.self e, λ k. (c.type_inv.out k).fits)

pub loop-j-preserved : goal.loop-j-preserved
loop-j-preserved c =
    let l = c.args.order.now in
    let j = c.loop-j.j in
    let q : place_of l (get_or l j 0) ≡ j = place_of_lem (length l) l c.requires.permutes j (omega arith) in (
      filled_more (length l) (place_of l) (perm l (vector c.args.v.now)) j (get_or l j 0) c.bit.result c.loop-j.out c.add_bit.new.v q
          (λ i m e. sym (at_place (length l) l c.requires.permutes i m) ∙ ap (λ k. get_or l k 0) e)
          (c.bit.ensures ∙ ap (vector c.args.v.now) (sym q)) c.add_bit.ensures c.loop-j.invariant.0,
      λ k. (c.type_inv.out k).fits,
    )

pub returns : goal.returns
returns c =
    let l = c.args.order.now in
    let all : (i : ℕ) → i < length l → place_of l i < c.loop-j.j = λ i m. omega (arith, place_below (length l) l c.requires.permutes i m) in
    record {
      after =
          filled_packed (length l) (length c.args.out.now) (place_of l) (perm l (vector c.args.v.now)) c.loop-j.j c.loop-j.out (omega arith)
          (omega arith) c.loop-j.invariant.1 all c.loop-j.invariant.0;
      undone =
          λ i m. filled_all (length l) (place_of l) (perm l (vector c.args.v.now)) c.loop-j.j c.loop-j.out all c.loop-j.invariant.0 (get_or l i 0)
          (c.requires.permutes.below i m)
          ∙ ap (vector c.args.v.now) (place_of_lem (length l) l c.requires.permutes i m);
    }
