-- The rules of the two tables, each proved once, over the whole table, by a test that antt computes.
use Rattle.std.specs.Prelude.{◌≡◌, refl, ℕ, zero, suc, ◌+◌, ◌*◌, ◌/◌, ◌%◌, ◌<◌, T, eqb, ltb, get_or}
use Rattle.std.proofs.Common.{arith, eqb→eq, ltb→lt}
use Rattle.algebra.specs.Shifts.{times_z, times_bits}
use Rattle.algebra.proofs.Every.{every, at, both, both_left, both_right}
use Rattle.field64.specs.Tables.{mul64, inv64, root64, powers, logs}

abbrev pub by_logs : ℕ → ℕ → ℕ
by_logs a b = get_or powers ((get_or logs a 0 + get_or logs b 0) % 63) 0

all_pairs : T (every (λ a. every (λ b. eqb (by_logs (suc a) (suc b)) (mul64 (suc a) (suc b))) 63) 63)
unfolding mul64 times_bits times_z
all_pairs = tt

pub product_rule : (a b : ℕ) → 0 < a → 0 < b → a < 64 → b < 64 → by_logs a b ≡ mul64 a b
product_rule zero b pa pb ha hb = absurd (omega arith)
product_rule (suc a) zero pa pb ha hb = absurd (omega arith)
product_rule (suc a) (suc b) pa pb ha hb =
    eqb→eq (by_logs (suc a) (suc b)) (mul64 (suc a) (suc b))
    (at (λ b. eqb (by_logs (suc a) (suc b)) (mul64 (suc a) (suc b))) 63
    (at (λ a. every (λ b. eqb (by_logs (suc a) (suc b)) (mul64 (suc a) (suc b))) 63) 63 all_pairs a (omega arith)) b (omega arith))

all_inverses : T (every (λ a. eqb (mul64 (suc a) (inv64 (suc a))) 1) 63)
unfolding mul64 inv64 times_bits times_z
all_inverses = tt

pub inverse_rule : (a : ℕ) → a < 64 → 0 < a → mul64 a (inv64 a) ≡ 1
inverse_rule zero ha pa = absurd (omega arith)
inverse_rule (suc a) ha pa = eqb→eq (mul64 (suc a) (inv64 (suc a))) 1 (at (λ a. eqb (mul64 (suc a) (inv64 (suc a))) 1) 63 all_inverses a (omega arith))

all_below : T (every (λ a. both (ltb (inv64 a) 64) (both (ltb (root64 a) 64) (ltb (get_or logs a 0) 63))) 64)
unfolding inv64 root64
all_below = tt

pub inverse_below : (a : ℕ) → a < 64 → inv64 a < 64
inverse_below a h = ltb→lt (inv64 a) 64 (both_left (ltb (inv64 a) 64) (both (ltb (root64 a) 64) (ltb (get_or logs a 0) 63)) (at (λ a. both (ltb (inv64 a) 64) (both (ltb (root64 a) 64) (ltb (get_or logs a 0) 63))) 64 all_below a h))

pub log_below : (a : ℕ) → a < 64 → get_or logs a 0 < 63
log_below a h = ltb→lt (get_or logs a 0) 63 (both_right (ltb (root64 a) 64) (ltb (get_or logs a 0) 63) (both_right (ltb (inv64 a) 64) (both (ltb (root64 a) 64) (ltb (get_or logs a 0) 63)) (at (λ a. both (ltb (inv64 a) 64) (both (ltb (root64 a) 64) (ltb (get_or logs a 0) 63))) 64 all_below a h)))

pub root_below : (a : ℕ) → a < 64 → root64 a < 64
root_below a h = ltb→lt (root64 a) 64 (both_left (ltb (root64 a) 64) (ltb (get_or logs a 0) 63) (both_right (ltb (inv64 a) 64) (both (ltb (root64 a) 64) (ltb (get_or logs a 0) 63)) (at (λ a. both (ltb (inv64 a) 64) (both (ltb (root64 a) 64) (ltb (get_or logs a 0) 63))) 64 all_below a h)))

all_roots : T (every (λ a. eqb (mul64 (root64 a) (root64 a)) a) 64)
unfolding mul64 root64 times_bits times_z
all_roots = tt

pub root_rule : (a : ℕ) → a < 64 → mul64 (root64 a) (root64 a) ≡ a
root_rule a h = eqb→eq (mul64 (root64 a) (root64 a)) a (at (λ a. eqb (mul64 (root64 a) (root64 a)) a) 64 all_roots a h)

pub root_positive : (a : ℕ) → 0 < a → root64 a ≡ get_or powers ((get_or logs a 0 + get_or logs a 0 % 2 * 63) / 2 % 63) 0
unfolding root64
root_positive zero h = absurd (omega arith)
root_positive (suc a) h = refl
