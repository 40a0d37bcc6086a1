-- What SHA-512 gives as bytes are taken.
use Rattle.std.specs.Prelude.{◌≡◌, ℕ, zero, suc, ◌+◌, ◌/◌, List, ◌++◌, length, take, drop, slice_index, refl}
use Rattle.std.proofs.Common.{sym, ap, ◌∙◌, append_assoc, zero-add, arith}
use Rattle.std.proofs.lemmas.List.FromFn.{length-map-range_with_len}
use Rattle.std.proofs.lemmas.List.{length-take, length-append}
use Rattle.sha512.specs.Sha512.{plus, initial, sums, rounds, schedule, words, compress, blocks, absorb, padding, digest, sha512, sha2_rule, digest_from}
use Rattle.sha512.specs.Blocks.{absorb_block, length_digest}

-- from the start
pub goes_start : (xs : List ℕ) → digest_from initial 0 xs ≡ sha512 xs
unfolding digest_from sha512
goes_start xs = ap (λ n. digest (absorb initial (xs ++ padding n))) (zero-add (length xs))

-- a block first
pub goes_block : (h b xs : List ℕ) (n : ℕ) → length b ≡ 128 → digest_from (compress h b) (n + 128) xs ≡ digest_from h n (b ++ xs)
unfolding digest_from
goes_block h b xs n l =
    let k : n + 128 + length xs ≡ n + length (b ++ xs) = omega (arith, length-append b xs) in
    ap digest (ap (λ j. absorb (compress h b) (xs ++ padding j)) k
    ∙ sym (absorb_block h b (xs ++ padding (n + length (b ++ xs))) l)
    ∙ ap (absorb h) (sym (append_assoc b xs (padding (n + length (b ++ xs))))))

-- what follows fills no block
pub goes_end : (h xs : List ℕ) (n : ℕ) → digest_from h n xs ≡ digest (absorb h (xs ++ padding (n + length xs)))
unfolding digest_from
goes_end h xs n = refl

blocks_length : (k : ℕ) (h m : List ℕ) → length h ≡ 8 → length (blocks k h m) ≡ 8
unfolding blocks compress sums
blocks_length zero h m n = n
blocks_length (suc k) h m n =
    let v : List ℕ = rounds h (schedule (words (take 128 m)) 64) 80 in
    blocks_length k (compress h (take 128 m)) (drop 128 m) (length-map-range_with_len (λ i. plus (slice_index h i) (slice_index v i)) 0 8)

pub rule_length : (xs : List ℕ) → length (sha2_rule xs) ≡ 32
unfolding sha512 absorb initial
rule_length xs =
    let m : List ℕ = xs ++ padding (length xs) in
    let e = blocks_length (length m / 128) initial m refl in
    let d = length_digest (blocks (length m / 128) initial m) in
    simp length-take (omega (arith, e, d))
