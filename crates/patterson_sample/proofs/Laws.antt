-- The laws of the field of four elements, by all cases.
use mathlib.Core.Path.{◌≡◌, refl, sym, ap, ◌∙◌}
use mathlib.Core.Bool.{Bool}
use Prim.Native.Nat.{ℕ, zero, suc}
use native.Mathlib.Omega.{arith}
use native.Mathlib.Decide.{ℕ_discrete}
use lib.Dec.{T, eqb, eqb→eq}
use Rattle.algebra.specs.Field.{Laws, Roots}
use Rattle.algebra.proofs.Every.{both, both_left, both_right}
use Rattle.patterson.specs.Code.{Perfect}
use Rattle.patterson_sample.specs.Four.{Four, n0, n1, w1, w2, plus, times, inverse, four}

abbrev pub num : Four → ℕ
num n0 = 0
num n1 = 1
num w1 = 2
num w2 = 3

abbrev at : ℕ → Four
at zero = n0
at (suc zero) = n1
at (suc (suc zero)) = w1
at (suc (suc (suc n))) = w2

at_num : (x : Four) → at (num x) ≡ x
at_num n0 = refl
at_num n1 = refl
at_num w1 = refl
at_num w2 = refl

same : (x y : Four) → Dec (x ≡ y)
same x y = elim (ℕ_discrete (num x) (num y)) [ yes e ↦ yes (sym (at_num x) ∙ ap at e ∙ at_num y) | no n ↦ no (λ h. n (ap num h)) ]

abbrev is : Four → Four → Bool
is x y = eqb (num x) (num y)

equal : (x y : Four) → T (is x y) → x ≡ y
equal x y t = sym (at_num x) ∙ ap at (eqb→eq (num x) (num y) t) ∙ at_num y

abbrev all : (Four → Bool) → Bool
all p = both (p n0) (both (p n1) (both (p w1) (p w2)))

each : (p : Four → Bool) → T (all p) → (x : Four) → T (p x)
each p t n0 = both_left (p n0) (both (p n1) (both (p w1) (p w2))) t
each p t n1 = both_left (p n1) (both (p w1) (p w2)) (both_right (p n0) (both (p n1) (both (p w1) (p w2))) t)
each p t w1 = both_left (p w1) (p w2) (both_right (p n1) (both (p w1) (p w2)) (both_right (p n0) (both (p n1) (both (p w1) (p w2))) t))
each p t w2 = both_right (p w1) (p w2) (both_right (p n1) (both (p w1) (p w2)) (both_right (p n0) (both (p n1) (both (p w1) (p w2))) t))

three : (l r : Four → Four → Four → Four) → T (all (λ x. all (λ y. all (λ z. is (l x y z) (r x y z))))) → (x y z : Four) → l x y z ≡ r x y z
three l r t x y z =
    equal (l x y z) (r x y z)
    (each (λ z. is (l x y z) (r x y z)) (each (λ y. all (λ z. is (l x y z) (r x y z))) (each (λ x. all (λ y. all (λ z. is (l x y z) (r x y z)))) t x) y) z)

zero_not_one : n1 ≡ n0 → ⊥
zero_not_one e = let z : ◌≡◌ {A = ℕ} 1 0 = ap num e in omega arith

with_inverse : (x : Four) → (x ≡ n0 → ⊥) → times x (inverse x) ≡ n1
with_inverse n0 h = absurd (h refl)
with_inverse n1 h = refl
with_inverse w1 h = refl
with_inverse w2 h = refl

pub laws : Laws four
laws = record {
  add_assoc = three (λ x y z. plus (plus x y) z) (λ x y z. plus x (plus y z)) tt;
  add_comm = λ x y. three (λ x y z. plus x y) (λ x y z. plus y x) tt x y n0;
  add_zero = λ x. three (λ x y z. plus x n0) (λ x y z. x) tt x n0 n0;
  add_self = λ x. three (λ x y z. plus x x) (λ x y z. n0) tt x n0 n0;
  mul_assoc = three (λ x y z. times (times x y) z) (λ x y z. times x (times y z)) tt;
  mul_comm = λ x y. three (λ x y z. times x y) (λ x y z. times y x) tt x y n0;
  mul_one = λ x. three (λ x y z. times x n1) (λ x y z. x) tt x n0 n0;
  mul_add = three (λ x y z. times x (plus y z)) (λ x y z. plus (times x y) (times x z)) tt;
  one_zero = zero_not_one;
  mul_inv = with_inverse;
}

roots : Roots four
roots = record { root = λ x. times x x; squared = λ x. three (λ x y z. times (times x x) (times x x)) (λ x y z. x) tt x n0 n0 }

pub perfect : Perfect four
perfect = record { laws = laws; same = same; roots = roots }
