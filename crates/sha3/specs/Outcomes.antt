-- What the sponge gives after a block and after the last block.
use Rattle.std.specs.Prelude.{◌≡◌, ℕ, zero, suc, ◌+◌, ◌-◌, ◌/◌, ◌%◌, ◌<◌, List, [], ◌∷◌, ◌++◌, length, take, drop, fold, bit_xor, slice_index, refl}
use Rattle.std.proofs.Common.{sym, ap, ap₂, ◌∙◌, append_assoc, arith}
use Rattle.std.proofs.lemmas.List.{length-take, length-append, take_all, take_at, drop_at, length-set}
use Rattle.sha3.specs.Keccak.{round, constants, permuted, theta, rho, pi, chi, chi_lane}
use Rattle.sha3.specs.Sponge.{zeros, all_bytes, mixed_at, mixed, absorbed, padding, padded, sponge, sha3_rule}
use Rattle.sha3.specs.Lanes.{length_lanes}
use Rattle.sha3.specs.Blocks.{length_bytes}

-- a whole block is absorbed first
pub sponge_block : (a b xs : List ℕ) → length b ≡ 72 → sponge a (b ++ xs) ≡ sponge (permuted (mixed a b)) xs
unfolding sponge absorbed padded
sponge_block a b xs n =
    let l = length-append b xs in
    let q : length (b ++ xs) / 72 + 1 ≡ suc (length xs / 72 + 1) = omega (arith, l) in
    let r : length (b ++ xs) % 72 ≡ length xs % 72 = omega (arith, l) in
    let p : padded (b ++ xs) ≡ b ++ padded xs = ap (λ x. (b ++ xs) ++ padding (71 - x)) r ∙ append_assoc b xs (padding (71 - length xs % 72)) in
    ap₂ (λ x y. take 64 (all_bytes (absorbed x a y))) q p
    ∙ ap₂ (λ x y. take 64 (all_bytes (absorbed (length xs / 72 + 1) (permuted (mixed a x)) y))) (take_at b (padded xs) 72 n) (drop_at b (padded xs) 72 n)

-- the padded rest is the last block
pub sponge_last : (a m last : List ℕ) → length m < 72 → length last ≡ 72 → last ≡ padded m
    → sponge a m ≡ take 64 (all_bytes (permuted (mixed a last)))
unfolding sponge absorbed
sponge_last a m last h n e =
    let q : length m / 72 + 1 ≡ 1 = omega arith in
    ap₂ (λ x y. take 64 (all_bytes (absorbed x a y))) q (sym e)
    ∙ ap (λ x. take 64 (all_bytes (permuted (mixed a x)))) (take_all 72 last (omega arith))

-- the rule gives 32 bytes
round_length : (a : List ℕ) (rc : ℕ) → length (round a rc) ≡ 25
unfolding round
round_length a rc =
    let b : List ℕ = pi (rho (theta a)) in
    length-set (chi b) 0 (bit_xor (slice_index (chi b) 0) rc) ∙ length_lanes (chi_lane b)

rounds_length : (cs a : List ℕ) → length a ≡ 25 → length (fold round a cs) ≡ 25
rounds_length [] a n = n
rounds_length (c ∷ cs) a n = rounds_length cs (round a c) (round_length a c)

absorbed_length : (k : ℕ) (a m : List ℕ) → length a ≡ 25 → length (absorbed k a m) ≡ 25
unfolding absorbed permuted mixed
absorbed_length zero a m n = n
absorbed_length (suc k) a m n =
    absorbed_length k (permuted (mixed a (take 72 m))) (drop 72 m)
    (rounds_length constants (mixed a (take 72 m)) (length_lanes (mixed_at a (take 72 m))))

pub rule_length : (xs : List ℕ) → length (sha3_rule xs) ≡ 32
unfolding sponge
rule_length xs =
    let e = absorbed_length (length xs / 72 + 1) (zeros 25) (padded xs) refl in
    let f = length_bytes (absorbed (length xs / 72 + 1) (zeros 25) (padded xs)) in
    simp length-take (omega (arith, e, f))
