-- A commutative ring in which x + x is zero: the elements of a binary field are one, and so are the polynomials over it.
--
use Rattle.std.specs.Prelude.{◌≡◌}
use Rattle.algebra.specs.Field.{Ops}

pub record Ring (A : Type 0) : Type 0 where
  pub zero : A
  pub one : A
  pub add : A → A → A
  pub mul : A → A → A

pub record RingLaws {A : Type 0} (r : Ring A) : Type 0 where
  pub add_assoc : (x y z : A) → r.add (r.add x y) z ≡ r.add x (r.add y z)
  pub add_comm : (x y : A) → r.add x y ≡ r.add y x
  pub add_zero : (x : A) → r.add x r.zero ≡ x
  pub add_self : (x : A) → r.add x x ≡ r.zero
  pub mul_assoc : (x y z : A) → r.mul (r.mul x y) z ≡ r.mul x (r.mul y z)
  pub mul_comm : (x y : A) → r.mul x y ≡ r.mul y x
  pub mul_one : (x : A) → r.mul x r.one ≡ x
  pub mul_add : (x y z : A) → r.mul x (r.add y z) ≡ r.add (r.mul x y) (r.mul x z)

abbrev pub ring_of : {A : Type 0} → Ops A → Ring A
ring_of f = record { zero = f.zero; one = f.one; add = f.add; mul = f.mul }
