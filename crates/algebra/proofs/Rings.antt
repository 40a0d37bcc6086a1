-- What the laws of a ring give.
use Rattle.std.proofs.Common.{◌≡◌, sym, ap, ◌∙◌}
use Rattle.algebra.specs.Field.{Ops, Laws}
use Rattle.algebra.specs.Ring.{Ring, RingLaws, ring_of}

pub ring_laws : {A : Type 0} {f : Ops A} → Laws f → RingLaws (ring_of f)
ring_laws k = record { add_assoc = k.add_assoc; add_comm = k.add_comm; add_zero = k.add_zero; add_self = k.add_self; mul_assoc = k.mul_assoc; mul_comm = k.mul_comm; mul_one = k.mul_one; mul_add = k.mul_add }

module _ {A : Type 0} {r : Ring A} (k : RingLaws r) where
  pub zero_add : (x : A) → r.add r.zero x ≡ x
  zero_add x = k.add_comm r.zero x ∙ k.add_zero x

  pub mul_zero : (x : A) → r.mul x r.zero ≡ r.zero
  mul_zero x = ap (r.mul x) (sym (k.add_self r.one)) ∙ k.mul_add x r.one r.one ∙ k.add_self (r.mul x r.one)

  pub zero_mul : (x : A) → r.mul r.zero x ≡ r.zero
  zero_mul x = k.mul_comm r.zero x ∙ mul_zero x

  pub add_mul : (x y z : A) → r.mul (r.add x y) z ≡ r.add (r.mul x z) (r.mul y z)
  add_mul x y z = k.mul_comm (r.add x y) z ∙ k.mul_add z x y ∙ ap (λ (w : A). r.add w (r.mul z y)) (k.mul_comm z x) ∙ ap (r.add (r.mul x z)) (k.mul_comm z y)

  pub exchange : (a b c d : A) → r.add (r.add a b) (r.add c d) ≡ r.add (r.add a c) (r.add b d)
  exchange a b c d =
      k.add_assoc a b (r.add c d)
      ∙ ap (r.add a) (sym (k.add_assoc b c d) ∙ ap (λ (w : A). r.add w d) (k.add_comm b c) ∙ k.add_assoc c b d)
      ∙ sym (k.add_assoc a c (r.add b d))
