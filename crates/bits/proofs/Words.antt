-- 16-bit numbers in bytes.
use Rattle.std.proofs.Common.{◌≡◌, ℕ, zero, suc, ◌+◌, ◌*◌, ◌/◌, ◌%◌, ◌<◌, List, [], ◌∷◌, ◌++◌, length, get_or, take, set, sym, refl, ap, ◌∙◌, append_assoc, arith}
use Rattle.std.proofs.lemmas.List.{take_more, take_more_set, length-set}
use Rattle.bits.specs.Words.{word, word_bytes}

pub no_words : word_bytes [] ≡ []
unfolding word_bytes
no_words = refl

words_push : (xs : List ℕ) (x : ℕ) → word_bytes (xs ++ x ∷ []) ≡ word_bytes xs ++ (x / 256 ∷ x % 256 ∷ [])
unfolding word_bytes
words_push [] x = refl
words_push (y ∷ xs) x = ap (λ (l : List ℕ). y / 256 ∷ y % 256 ∷ l) (words_push xs x)

-- a loop that writes one number after the other
pub words_more :
    (xs out : List ℕ) (i b : ℕ) → i < length xs → 2 * i + 1 < length out → b ≡ get_or xs i 0 % 256 → take (2 * i) out ≡ word_bytes (take i xs)
    → take (2 * (i + 1)) (set (set out (2 * i) (get_or xs i 0 / 256)) (2 * i + 1) b) ≡ word_bytes (take (i + 1) xs)
words_more xs out i b l m e h =
    let x = get_or xs i 0 in
    let n : length (set out (2 * i) (x / 256)) ≡ length out = length-set out (2 * i) (x / 256) in
    let two : 2 * (i + 1) ≡ 2 * i + 1 + 1 = omega arith in
    rw (two, take_more_set (set out (2 * i) (x / 256)) (2 * i + 1) b (omega arith), take_more_set out (2 * i) (x / 256) (omega arith), take_more xs i 0 l, h, e)
    (append_assoc (word_bytes (take i xs)) (x / 256 ∷ []) (x % 256 ∷ []) ∙ sym (words_push (take i xs) x))

pub word_back : (xs : List ℕ) (i : ℕ) → word (word_bytes xs) i ≡ get_or xs i 0
unfolding word_bytes
word_back [] i = refl
word_back (x ∷ xs) zero = omega arith
word_back (x ∷ xs) (suc i) =
    let a : 2 * suc i ≡ suc (suc (2 * i)) = omega arith in
    let b : 2 * suc i + 1 ≡ suc (suc (2 * i + 1)) = omega arith in
    rw (b, a) (word_back xs i)
