-- The laws of the product, on all numbers.
use Rattle.std.specs.Prelude.{◌≡◌, ℕ, ◌%◌, ◌<◌}
use Rattle.std.proofs.Common.{sym, ap, ◌∙◌, mod-lt, mod-eq_of_lt, lit<}
use Rattle.std.proofs.lemmas.Nat.{xor_mod}
use Rattle.algebra.specs.Shifts.{times_z, times_bits}
use Rattle.algebra.proofs.Linear.{Linear}
use Rattle.algebra.proofs.Shifts.{times_left, times_right, times_reads, times_below, comm, assoc, one}
use Rattle.field8192.specs.Product.{mul8192}

abbrev low : ℕ → ℕ
low a = a % 8192

low_below : (a : ℕ) → low a < 8192
low_below a = mod-lt a (lit< tt)

abbrev mul : ℕ → ℕ → ℕ
mul = times_bits 12 225 13

reads : (a b : ℕ) → mul a b ≡ mul a (low b)
reads = times_reads 12 225 13

comm_below : (a b : ℕ) → a < 8192 → b < 8192 → mul a b ≡ mul b a
unfolding times_bits times_z
comm_below = comm 12 225 13 tt

assoc_below : (a b c : ℕ) → a < 8192 → b < 8192 → c < 8192 → mul (mul a b) c ≡ mul a (mul b c)
unfolding times_bits times_z
assoc_below = assoc 12 225 13 tt

one_below : (a : ℕ) → a < 8192 → mul a 1 ≡ a
unfolding times_bits times_z
one_below = one 12 225 13 tt

pub mul_left : (b : ℕ) → Linear (λ a. mul8192 a b)
unfolding mul8192
mul_left b a c = ap (λ (x : ℕ). mul x b) (xor_mod a c 13) ∙ times_left 12 225 13 b (low a) (low c)

pub mul_right : (a : ℕ) → Linear (mul8192 a)
unfolding mul8192
mul_right a = times_right 12 225 13 (low a)

pub mul_below : (a b : ℕ) → mul8192 a b < 8192
unfolding mul8192
mul_below a b = times_below 12 225 (lit< tt) 13 (low a) b (low_below a)

pub mul_comm : (a b : ℕ) → mul8192 a b ≡ mul8192 b a
unfolding mul8192
mul_comm a b = reads (low a) b ∙ comm_below (low a) (low b) (low_below a) (low_below b) ∙ sym (reads (low b) a)

pub mul_assoc : (a b c : ℕ) → mul8192 (mul8192 a b) c ≡ mul8192 a (mul8192 b c)
unfolding mul8192
mul_assoc a b c =
    ap (λ (x : ℕ). mul x c) (mod-eq_of_lt (mul_below a b) ∙ reads (low a) b)
    ∙ reads (mul (low a) (low b)) c
    ∙ assoc_below (low a) (low b) (low c) (low_below a) (low_below b) (low_below c)
    ∙ sym (ap (mul (low a)) (reads (low b) c))

pub mul_one : (a : ℕ) → a < 8192 → mul8192 a 1 ≡ a
unfolding mul8192
mul_one a h = ap (λ (x : ℕ). mul x 1) (mod-eq_of_lt h) ∙ one_below a h
