-- A commutative field of characteristic 2: operations over a carrier, and the laws that they keep.
use Rattle.std.specs.Prelude.{◌≡◌, ℕ, ◌^◌, ◌<◌, ◌≤◌, ◌≢◌}

pub record Ops (A : Type 0) : Type 0 where
  pub zero : A
  pub one : A
  pub add : A → A → A
  pub mul : A → A → A
  pub inv : A → A

pub record Laws {A : Type 0} (f : Ops A) : Type 0 where
  pub add_assoc : (x y z : A) → f.add (f.add x y) z ≡ f.add x (f.add y z)
  pub add_comm : (x y : A) → f.add x y ≡ f.add y x
  pub add_zero : (x : A) → f.add x f.zero ≡ x
  pub add_self : (x : A) → f.add x x ≡ f.zero
  pub mul_assoc : (x y z : A) → f.mul (f.mul x y) z ≡ f.mul x (f.mul y z)
  pub mul_comm : (x y : A) → f.mul x y ≡ f.mul y x
  pub mul_one : (x : A) → f.mul x f.one ≡ x
  pub mul_add : (x y z : A) → f.mul x (f.add y z) ≡ f.add (f.mul x y) (f.mul x z)
  pub one_zero : f.one ≡ f.zero → ⊥
  pub mul_inv : (x : A) → (x ≢ f.zero) → f.mul x (f.inv x) ≡ f.one

-- every element has a square root
pub record Roots {A : Type 0} (f : Ops A) : Type 0 where
  pub root : A → A
  pub squared : (x : A) → f.mul (root x) (root x) ≡ x

-- 2^m elements, numbered. The numbers from 2^m on number nothing: each is read as 0 is.
pub record Places (A : Type 0) (m : ℕ) : Type 0 where
  pub num : A → ℕ
  pub at : ℕ → A
  pub num_below : (x : A) → num x < 2 ^ m
  pub at_num : (x : A) → at (num x) ≡ x
  pub num_at : (n : ℕ) → n < 2 ^ m → num (at n) ≡ n
  pub at_past : (n : ℕ) → 2 ^ m ≤ n → at n ≡ at 0
