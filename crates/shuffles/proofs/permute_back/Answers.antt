use Rattle.std.proofs.Common.{◌≡◌, ℕ, ◌<◌, length, replicate, refl, ap, ◌∙◌, arith, rules}
use Rattle.bits.specs.Packed.{vector}
use Rattle.shuffles.specs.Orders.{perm_inv}
use Rattle.shuffles.proofs.Orders.{filled_none, filled_more, filled_all, filled_packed, place_below, at_place}
use Rattle.shuffles.proofs.permute_back.Goals as goal

pub loop-j-init : goal.loop-j-init
loop-j-init c =
    let e : c.fill.new.self ≡ replicate (length c.args.out.now) 0 = search rules in
    (filled_none (length c.args.order.now) (length c.args.out.now) _ _ c.fill.new.self e, λ k. (c.type_inv.out k).fits)

pub loop-j-preserved : goal.loop-j-preserved
loop-j-preserved c =
    let l = c.args.order.now in (
      filled_more (length l) (λ i. i) (perm_inv l (vector c.args.v.now)) c.loop-j.j c.loop-j.j c.bit.result c.loop-j.out c.add_bit.new.v refl
          (λ i m e. e) c.bit.ensures c.add_bit.ensures c.loop-j.invariant.0,
      λ k. (c.type_inv.out k).fits,
    )

pub returns : goal.returns
returns c =
    let l = c.args.order.now in
    let all : (i : ℕ) → i < length l → i < c.loop-j.j = λ i m. omega arith in
    record {
      after =
          filled_packed (length l) (length c.args.out.now) (λ i. i) (perm_inv l (vector c.args.v.now)) c.loop-j.j c.loop-j.out (omega arith)
          (omega arith) c.loop-j.invariant.1 all c.loop-j.invariant.0;
      undone =
          λ i m. filled_all (length l) (λ i. i) (perm_inv l (vector c.args.v.now)) c.loop-j.j c.loop-j.out all c.loop-j.invariant.0 _
          (place_below (length l) l c.requires.permutes i m)
          ∙ ap (vector c.args.v.now) (at_place (length l) l c.requires.permutes i m);
    }
