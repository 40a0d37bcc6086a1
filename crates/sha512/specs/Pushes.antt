-- What SHA-512 gives as bytes and blocks are taken one by one: those past the last whole block wait at the front of a block.
use Rattle.std.specs.Prelude.{◌≡◌, ℕ, suc, ◌+◌, ◌*◌, ◌/◌, ◌%◌, ◌<◌, ◌≤◌, List, [], ◌∷◌, ◌++◌, length, take, drop, set, slice_set, refl}
use Rattle.std.proofs.Common.{sym, ap, ap₂, ◌∙◌, append_assoc, zero-add, arith}
use Rattle.std.proofs.Math.Path.{fun_ext}
use Rattle.std.proofs.lemmas.List.{length-take-le, length-append, length-set, take_all, take-take, take_more_set, take-append-drop, drop-take, append-nil}
use Rattle.sha512.specs.Sha512.{initial, compress, absorb, padding, digest, sha512, sha2_rule, digest_from}
use Rattle.sha512.specs.Blocks.{absorb_block}

-- what SHA-512 gives from the chaining value h on, where so many bytes were taken, of which those past
-- the last whole block stand at the front of the block, and xs are still to come
unfoldable pub digest_after : List ℕ → List ℕ → ℕ → List ℕ → List ℕ
digest_after h block taken xs = digest (absorb h (take (taken % 128) block ++ xs ++ padding (taken + length xs)))

-- the bytes that wait, and those to come, follow the whole blocks
pub after_blocks : (h block xs : List ℕ) (taken : ℕ) → length block ≡ 128
    → digest_after h block taken xs ≡ digest_from h (128 * (taken / 128)) (take (taken % 128) block ++ xs)
unfolding digest_after digest_from
after_blocks h block xs taken n =
    let l : length (take (taken % 128) block) ≡ taken % 128 = length-take-le (taken % 128) block (omega arith) in
    let k : taken + length xs ≡ 128 * (taken / 128) + length (take (taken % 128) block ++ xs) = omega (arith, l, length-append (take (taken % 128) block) xs) in
    ap (λ y. digest (absorb h ((take (taken % 128) block ++ xs) ++ padding y))) k

-- from the start
pub goes_after_start : (block : List ℕ) → (λ (xs : List ℕ). take 32 (digest_after initial block 0 xs)) ≡ sha2_rule
unfolding digest_after sha512
goes_after_start block = fun_ext (λ xs. ap (λ n. take 32 (digest (absorb initial (xs ++ padding n)))) (zero-add (length xs)))

-- to the end
pub goes_after_end : (h block : List ℕ) (taken : ℕ) → digest_after h block taken [] ≡ digest (absorb h (take (taken % 128) block ++ padding taken))
unfolding digest_after
goes_after_end h block taken =
    let n : taken + 0 ≡ taken = omega arith in
    ap₂ (λ x y. digest (absorb h (x ++ padding y))) (append-nil (take (taken % 128) block)) n

-- a byte that does not fill the block
pub goes_byte : (h block : List ℕ) (taken b : ℕ) → length block ≡ 128 → taken % 128 < 127
    → digest_after h (slice_set block (taken % 128) b) (taken + 1) ≡ (λ xs. digest_after h block taken (b ∷ xs))
unfolding digest_after
goes_byte h block taken b n l = fun_ext (λ xs.
    let u : (taken + 1) % 128 ≡ taken % 128 + 1 = omega arith in
    let k : taken + 1 + length xs ≡ taken + suc (length xs) = omega arith in
    ap₂ (λ x y. digest (absorb h ((take x (slice_set block (taken % 128) b) ++ xs) ++ padding y))) u k
    ∙ ap (λ x. digest (absorb h ((x ++ xs) ++ padding (taken + suc (length xs))))) (take_more_set block (taken % 128) b (omega arith))
    ∙ ap (λ x. digest (absorb h (x ++ padding (taken + suc (length xs))))) (append_assoc (take (taken % 128) block) (b ∷ []) xs))

-- a block that follows the bytes in use
pub goes_over : (h h' block block' whole ys : List ℕ) (taken n : ℕ) → length whole ≡ 128 → whole ≡ take (taken % 128) block ++ ys → h' ≡ compress h whole
    → (taken + n) % 128 ≡ 0 → length ys ≡ n → digest_after h' block' (taken + n) ≡ (λ xs. digest_after h block taken (ys ++ xs))
unfolding digest_after
goes_over h h' block block' whole ys taken n l w e z m = fun_ext (λ xs.
    let k : taken + n + length xs ≡ taken + length (ys ++ xs) = omega (arith, length-append ys xs) in
    ap₂ (λ x y. digest (absorb h' ((take x block' ++ xs) ++ padding y))) z k
    ∙ ap (λ x. digest (absorb x (xs ++ padding (taken + length (ys ++ xs))))) e
    ∙ ap digest (sym (absorb_block h whole (xs ++ padding (taken + length (ys ++ xs))) l))
    ∙ ap (λ x. digest (absorb h x)) (sym (append_assoc whole xs (padding (taken + length (ys ++ xs)))))
    ∙ ap (λ x. digest (absorb h (x ++ padding (taken + length (ys ++ xs))))) (ap (λ x. x ++ xs) w ∙ append_assoc (take (taken % 128) block) ys xs))

-- a byte that fills the block
pub goes_full : (h h' block : List ℕ) (taken b : ℕ) → length block ≡ 128 → taken % 128 ≡ 127 → h' ≡ compress h (slice_set block (taken % 128) b)
    → digest_after h' (slice_set block (taken % 128) b) (taken + 1) ≡ (λ xs. digest_after h block taken (b ∷ xs))
goes_full h h' block taken b n u e =
    let l : length (slice_set block (taken % 128) b) ≡ 128 = length-set block (taken % 128) b ∙ n in
    let w : set block (taken % 128) b ≡ take (taken % 128) block ++ b ∷ [] =
    sym (take_all (taken % 128 + 1) (slice_set block (taken % 128) b) (omega arith)) ∙ take_more_set block (taken % 128) b (omega arith) in
    goes_over h h' block (slice_set block (taken % 128) b) (slice_set block (taken % 128) b) (b ∷ []) taken 1 l w e (omega arith) refl

-- a whole block, where none is begun
pub goes_whole : (h h' block whole : List ℕ) (taken : ℕ) → length whole ≡ 128 → taken % 128 ≡ 0 → h' ≡ compress h whole
    → digest_after h' block (taken + 128) ≡ (λ xs. digest_after h block taken (whole ++ xs))
goes_whole h h' block whole taken l u e =
    let w : take 0 block ++ whole ≡ take (taken % 128) block ++ whole = ap (λ x. take x block ++ whole) (sym u) in
    goes_over h h' block block whole whole taken 128 l w e (omega arith) l

-- a list a taken, and then a list b
pub goes_more : (f g k : List ℕ → List ℕ) (a b c : List ℕ) → g ≡ (λ xs. f (a ++ xs)) → k ≡ (λ xs. g (b ++ xs)) → c ≡ a ++ b → k ≡ (λ xs. f (c ++ xs))
goes_more f g k a b c e d s =
    d ∙ ap {B = List ℕ → List ℕ} (λ (j : List ℕ → List ℕ) xs. j (b ++ xs)) e
    ∙ fun_ext (λ xs. ap f (sym (append_assoc a b xs) ∙ ap (λ x. x ++ xs) (sym s)))

-- all of a list taken
pub goes_all : (f g : List ℕ → List ℕ) (bs : List ℕ) (i : ℕ) → length bs ≤ i → g ≡ (λ xs. f (take i bs ++ xs)) → g ≡ (λ xs. f (bs ++ xs))
goes_all f g bs i l e = e ∙ fun_ext (λ xs. ap (λ x. f (x ++ xs)) (take_all i bs l))

-- n bytes of a list, and then m more
pub take_add : (n m : ℕ) (xs : List ℕ) → take (n + m) xs ≡ take n xs ++ take m (drop n xs)
take_add n m xs = sym (take-append-drop n (take (n + m) xs)) ∙ ap₂ (λ x y. x ++ y) (take-take n (n + m) xs (omega arith)) (drop-take n m xs)
