-- What the sponge gives as bytes and blocks are pushed one by one: the bytes that fill no block wait at the front of one.
use Rattle.std.specs.Prelude.{◌≡◌, ℕ, ◌+◌, ◌*◌, ◌<◌, ◌≤◌, List, [], ◌∷◌, ◌++◌, map, length, take, drop, set, slice_index, slice_index_or, slice_set}
use Rattle.std.proofs.Common.{sym, ap, subst, ◌∙◌, append_assoc, add-zero, arith}
use Rattle.std.proofs.Math.Path.{fun_ext}
use Rattle.std.specs.List.{range_with_len}
use Rattle.std.proofs.lemmas.List.FromFn.{fill_by_all}
use Rattle.std.proofs.lemmas.List.{length-take, length-drop, length-set, get_or-take, get_or-drop, take_all, take_more_set}
use Rattle.sha3.specs.Keccak.{permuted}
use Rattle.sha3.specs.Sponge.{lane_of, mixed, sponge}
use Rattle.sha3.specs.Outcomes.{sponge_block}

-- eight bytes in a row, one by one
pub eight : (xs : List ℕ) (k : ℕ) → k + 8 ≤ length xs → take 8 (drop k xs) ≡ map (λ j. slice_index xs (k + j)) (range_with_len 0 8)
eight xs k h =
    fill_by_all (λ j. slice_index xs (k + j)) (take 8 (drop k xs)) 8 0 (simp (length-take, length-drop) (omega arith))
    (λ j l. get_or-take 8 (drop k xs) j 0 l ∙ get_or-drop k xs j 0)

-- eight bytes in a row are a lane, wherever they begin
pub lane_at : (xs : List ℕ) (k : ℕ) → k + 8 ≤ length xs
    → slice_index xs k + slice_index xs (k + 1) * 256 + slice_index xs (k + 2) * 65536 + slice_index xs (k + 3) * 16777216 + slice_index xs (k + 4) * 4294967296
    + slice_index xs (k + 5) * 1099511627776 + slice_index xs (k + 6) * 281474976710656 + slice_index xs (k + 7) * 72057594037927936
    ≡ lane_of (take 8 (drop k xs))
unfolding lane_of
lane_at xs k h =
    let z : slice_index_or xs (k + 0) 0 ≡ slice_index_or xs k 0 = ap (λ j. slice_index xs j) (add-zero k) in
    let e = ap lane_of (eight xs k h) in
    omega (arith, e, z)

-- the 32 bytes that come of a state, the bytes of a block that are in use and the further bytes xs
abbrev pub outcome : List ℕ → List ℕ → ℕ → List ℕ → List ℕ
outcome a block used xs = take 32 (sponge a (take used block ++ xs))

-- a byte into a block with more than one free, into the last free one, and a whole block
pub push_more : (a block : List ℕ) (used b : ℕ) → used < length block
    → outcome a (slice_set block used b) (used + 1) ≡ (λ xs. outcome a block used (b ∷ xs))
push_more a block used b h =
    fun_ext (λ xs. ap (take 32) (ap (λ x. sponge a (x ++ xs)) (take_more_set block used b h) ∙ ap (sponge a) (append_assoc (take used block) (b ∷ []) xs)))

pub push_full : (a a' block : List ℕ) (used b : ℕ) → used ≡ 71 → length block ≡ 72 → a' ≡ permuted (mixed a (slice_set block used b))
    → outcome a' (slice_set block used b) 0 ≡ (λ xs. outcome a block used (b ∷ xs))
push_full a a' block used b u n e =
    let k : used < length block = omega arith in
    let w : length (slice_set block used b) ≡ 72 = length-set block used b ∙ n in
    let t : take (used + 1) (slice_set block used b) ≡ set block used b = take_all (used + 1) (slice_set block used b) (omega arith) in
    fun_ext (λ xs. ap (take 32) (ap (λ x. sponge x xs) e ∙ sym (sponge_block a (slice_set block used b) xs w)
    ∙ ap (λ x. sponge a (x ++ xs)) (sym t ∙ take_more_set block used b k)
    ∙ ap (sponge a) (append_assoc (take used block) (b ∷ []) xs)))

pub push_block : (a a' block b : List ℕ) (used : ℕ) → used ≡ 0 → length b ≡ 72 → a' ≡ permuted (mixed a b)
    → outcome a' block used ≡ (λ xs. outcome a block used (b ++ xs))
push_block a a' block b used u n e =
    let P : ℕ → Type 0 = λ k. outcome a' block k ≡ (λ xs. outcome a block k (b ++ xs)) in
    subst P (sym u) (fun_ext (λ xs. ap (take 32) (ap (λ x. sponge x xs) e ∙ sym (sponge_block a b xs n))))

-- f is the outcome before the bytes m, g that after them, and h that after the bytes n too
pub pushed_more : (f g h : List ℕ → List ℕ) (m n all : List ℕ) → g ≡ (λ xs. f (m ++ xs)) → h ≡ (λ xs. g (n ++ xs)) → all ≡ m ++ n
    → h ≡ (λ xs. f (all ++ xs))
pushed_more f g h m n all e d is =
    d ∙ ap {B = List ℕ → List ℕ} (λ (k : List ℕ → List ℕ) xs. k (n ++ xs)) e
    ∙ fun_ext (λ xs. ap f (sym (append_assoc m n xs) ∙ ap (λ x. x ++ xs) (sym is)))
