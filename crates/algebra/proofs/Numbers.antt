-- The laws of a field whose elements are numbered, from those of the numbers.
use Rattle.std.proofs.Common.{◌≡◌, ℕ, zero, suc, ◌^◌, ◌<◌, ◌≤◌, sym, refl, ap, ◌∙◌, ap₂, inl, inr, arith}
use lib.Bits.{bit_xor, xor_assoc, xor_comm, xor_self, xor_zero_r, xor_lt}
use Rattle.std.proofs.lemmas.Nat.{pow_pos}
use Rattle.std.proofs.lemmas.Bool.{cases_lt, lt-ltb, le-ltb}
use Rattle.algebra.specs.Field.{Laws, Places}
use Rattle.algebra.specs.Numbers.{within, ops_from, NumLaws}

pub within_is : (b n : ℕ) → n < b → within b n ≡ n
unfolding within
within_is b n h = rw (lt-ltb n b h)

pub within_past : (b n : ℕ) → b ≤ n → within b n ≡ 0
unfolding within
within_past b n h = rw (le-ltb n b h)

pub within_below : (b n : ℕ) → 0 < b → within b n < b
within_below b n p =
    elim (cases_lt n b) [
      | inl l ↦ rw (within_is b n l) l
      | inr l ↦ rw (within_past b n l) p
    ]

positive : (n : ℕ) → (n ≡ 0 → ⊥) → 0 < n
positive zero h = absurd (h refl)
positive (suc n) h = omega arith

module _ {A : Type 0} {m : ℕ} (p : Places A m) {mul : ℕ → ℕ → ℕ} {inv : ℕ → ℕ} (k : NumLaws m mul inv) where
  pub laws_from : Laws (ops_from p mul inv)
  laws_from =
      let n : A → ℕ = p.num in
      let lt : (x : A) → p.num x < 2 ^ m = p.num_below in
      let xlt : (x y : A) → bit_xor (p.num x) (p.num y) < 2 ^ m = λ x y. xor_lt m (p.num x) (p.num y) (lt x) (lt y) in
      let mlt : (x y : A) → mul (p.num x) (p.num y) < 2 ^ m = λ x y. k.mul_below (p.num x) (p.num y) (lt x) (lt y) in
      let ilt : (x : A) → inv (p.num x) < 2 ^ m = λ x. k.inv_below (p.num x) (lt x) in
      record {
        add_assoc = λ x y z. ap p.at (ap (λ (w : ℕ). bit_xor w (p.num z)) (p.num_at _ (xlt x y)) ∙ xor_assoc (p.num x) (p.num y) (p.num z) ∙ ap (bit_xor (p.num x)) (sym (p.num_at _ (xlt y z))));
        add_comm = λ x y. ap p.at (xor_comm (p.num x) (p.num y));
        add_zero = λ x. ap p.at (ap (bit_xor (p.num x)) (p.num_at 0 (pow_pos m)) ∙ xor_zero_r (p.num x)) ∙ p.at_num x;
        add_self = λ x. ap p.at (xor_self (p.num x));
        mul_assoc = λ x y z. ap p.at (ap (λ (w : ℕ). mul w (p.num z)) (p.num_at _ (mlt x y)) ∙ k.mul_assoc (p.num x) (p.num y) (p.num z) (lt x) (lt y) (lt z) ∙ ap (mul (p.num x)) (sym (p.num_at _ (mlt y z))));
        mul_comm = λ x y. ap p.at (k.mul_comm (p.num x) (p.num y) (lt x) (lt y));
        mul_one = λ x. ap p.at (ap (mul (p.num x)) (p.num_at 1 k.one_below) ∙ k.mul_one (p.num x) (lt x)) ∙ p.at_num x;
        mul_add = λ x y z. ap p.at (ap (mul (p.num x)) (p.num_at _ (xlt y z)) ∙ k.mul_xor (p.num x) (p.num y) (p.num z) (lt x) (lt y) (lt z) ∙ sym (ap₂ bit_xor (p.num_at _ (mlt x y)) (p.num_at _ (mlt x z))));
        one_zero = λ e. let z : ◌≡◌ {A = ℕ} 1 0 = sym (p.num_at 1 k.one_below) ∙ ap p.num e ∙ p.num_at 0 (pow_pos m) in omega arith;
        mul_inv = λ x h. ap p.at (ap (mul (p.num x)) (p.num_at _ (ilt x)) ∙ k.mul_inv (p.num x) (lt x) (positive (p.num x) (λ e. h (sym (p.at_num x) ∙ ap p.at e))));
      }
