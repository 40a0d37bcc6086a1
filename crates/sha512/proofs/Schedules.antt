-- What the loops of the compression function keep.
use Rattle.std.proofs.Common.{◌≡◌, ℕ, suc, ◌+◌, ◌-◌, ◌*◌, ◌<◌, ◌≤◌, List, [], ◌∷◌, ◌++◌, map, length, get_or, take, drop, set, sym, refl, ap, ◌∙◌, ap₂, add-zero, add-one, arith}
use Rattle.std.specs.Int.{w64, from_be_bytes}
use Rattle.std.specs.List.{range_with_len}
use Rattle.std.proofs.lemmas.List.FromFn.{fill_by_all}
use Rattle.std.proofs.lemmas.List.{length-take, length-drop, length-take-le, get_or-take, get_or-drop, take_more_set}
use Rattle.sha512.specs.Sha512.{plus, big_endian, words, word_after, schedule, constants, round, rounds, sums}

-- what from_be_bytes makes of eight bytes
pub word_is : (xs : List ℕ) → length xs ≡ 8 → from_be_bytes w64 xs ≡ big_endian xs
unfolding big_endian
word_is xs n =
    let e = ap big_endian (fill_by_all (λ j. get_or xs j 0) xs 8 0 n (λ j h. refl)) in
    omega (arith, e)

eight : (xs : List ℕ) (k : ℕ) → k + 8 ≤ length xs → take 8 (drop k xs) ≡ map (λ j. get_or xs (k + j) 0) (range_with_len 0 8)
eight xs k h =
    fill_by_all (λ j. get_or xs (k + j) 0) (take 8 (drop k xs)) 8 0 (simp (length-take, length-drop) (omega arith))
    (λ j l. get_or-take 8 (drop k xs) j 0 l ∙ get_or-drop k xs j 0)

-- the word that eight bytes from place k on make
pub word_at : (xs : List ℕ) (k : ℕ) → k + 8 ≤ length xs
    → get_or xs k 0 * 72057594037927936 + get_or xs (k + 1) 0 * 281474976710656 + get_or xs (k + 2) 0 * 1099511627776 + get_or xs (k + 3) 0 * 4294967296
    + get_or xs (k + 4) 0 * 16777216 + get_or xs (k + 5) 0 * 65536 + get_or xs (k + 6) 0 * 256 + get_or xs (k + 7) 0
    ≡ big_endian (take 8 (drop k xs))
unfolding big_endian
word_at xs k h =
    let z : get_or xs (k + 0) 0 ≡ get_or xs k 0 = ap (λ j. get_or xs j 0) (add-zero k) in
    let e = ap big_endian (eight xs k h) in
    omega (arith, e, z)

pub words_all : (block w : List ℕ) → 16 ≤ length w
    → ((k : ℕ) → k < 16 → get_or w k 0 ≡ big_endian (take 8 (drop (8 * k) block))) → take 16 w ≡ words block
unfolding words
words_all block w n f =
    fill_by_all (λ i. big_endian (take 8 (drop (8 * i) block))) (take 16 w) 16 0 (length-take-le 16 w n)
    (λ k h. get_or-take 16 w k 0 h ∙ f k h)

-- a word of the schedule is read from the words before it alone
next_front : (w : List ℕ) (t : ℕ) → 16 ≤ t → word_after w t ≡ word_after (take t w) t
next_front w t h =
    let a : get_or (take t w) (t - 2) 0 ≡ get_or w (t - 2) 0 = get_or-take t w (t - 2) 0 (omega arith) in
    let b : get_or (take t w) (t - 7) 0 ≡ get_or w (t - 7) 0 = get_or-take t w (t - 7) 0 (omega arith) in
    let c : get_or (take t w) (t - 15) 0 ≡ get_or w (t - 15) 0 = get_or-take t w (t - 15) 0 (omega arith) in
    let d : get_or (take t w) (t - 16) 0 ≡ get_or w (t - 16) 0 = get_or-take t w (t - 16) 0 (omega arith) in
    cc

pub schedule_more : (ws w : List ℕ) (t : ℕ) → 16 ≤ t → t < length w → take t w ≡ schedule ws (t - 16)
    → take (t + 1) (set w t (word_after w t)) ≡ schedule ws (t + 1 - 16)
unfolding schedule
schedule_more ws w t h l e =
    let s : t + 1 - 16 ≡ suc (t - 16) = omega arith in
    let p : t ≡ 16 + (t - 16) = omega arith in
    take_more_set w t (word_after w t) l
    ∙ ap (λ x. take t w ++ x ∷ []) (next_front w t h)
    ∙ ap₂ (λ x y. x ++ word_after x y ∷ []) e p
    ∙ ap (schedule ws) (sym s)

pub rounds_more : (v w u : List ℕ) (t : ℕ) → u ≡ rounds v w t → round u (get_or constants t 0) (get_or w t 0) ≡ rounds v w (t + 1)
unfolding rounds
rounds_more v w u t e = ap (λ x. round x (get_or constants t 0) (get_or w t 0)) e ∙ ap (rounds v w) (sym (add-one t))

pub sums_all : (v u h : List ℕ) → length h ≡ 8 → ((k : ℕ) → k < 8 → get_or h k 0 ≡ plus (get_or v k 0) (get_or u k 0)) → h ≡ sums v u
unfolding sums
sums_all v u h n f = fill_by_all (λ i. plus (get_or v i 0) (get_or u i 0)) h 8 0 n f
