-- The blocks of the sponge: their lanes, the padding, and the bytes of a state.
use Rattle.std.specs.Prelude.{◌≡◌, ℕ, zero, suc, ◌+◌, ◌-◌, ◌*◌, ◌/◌, ◌%◌, ◌<◌, ◌≤◌, ◌⊎◌, List, [], ◌∷◌, ◌++◌, length, take, drop, set, bit_or, bit_xor, slice_index, slice_set, refl}
use Rattle.std.proofs.Common.{sym, ap, ap₂, ◌∙◌, append_assoc, inl, inr, add-one, below_more, get_or-set_other, get_or-set_same, arith}
use Rattle.std.specs.Int.{w64, from_le_bytes}
use Rattle.std.specs.Int.Bits.{xor_zero_r}
use Rattle.std.proofs.lemmas.List.FromFn.{fill_by_all}
use Rattle.std.proofs.lemmas.List.{length-take, length-append, length-replicate, get_or-take, drop_all, set_at, get_or_at, replicate_more, get_or_append_left, get_or-append_right, ext_get_or}
use Rattle.sha3.specs.Sponge.{zeros, lane_of, bytes_of, all_bytes, byte_at, mixed_at, mixed, padding, padded}
use Rattle.sha3.specs.Lanes.{all_lanes}

-- eight bytes are a lane
pub lane : (xs : List ℕ) → length xs ≡ 8 → from_le_bytes w64 xs ≡ lane_of xs
unfolding lane_of
lane xs n =
    let e = ap lane_of (fill_by_all (λ j. slice_index xs j) xs 8 0 n (λ j h. refl)) in omega (arith, e)

-- past the ninth lane a block gives nothing
past : (a block : List ℕ) (k : ℕ) → length block ≡ 72 → 9 ≤ k → slice_index a k ≡ mixed_at a block k
unfolding lane_of
past a block k n h =
    let d : drop (8 * k) block ≡ [] = drop_all (8 * k) block (omega arith) in
    sym (ap (λ (x : List ℕ). bit_xor (slice_index a k) (lane_of (take 8 x))) d ∙ xor_zero_r (slice_index a k))

-- one more lane takes in its bytes of the block
pub mixed_more : (a b block : List ℕ) (i x : ℕ) → i < length b → x ≡ lane_of (take 8 (drop (8 * i) block)) → slice_index b i ≡ slice_index a i
    → ((k : ℕ) → k < i → slice_index b k ≡ mixed_at a block k)
    → (k : ℕ) → k < i + 1 → slice_index (set b i (bit_xor (slice_index b i) x)) k ≡ mixed_at a block k
mixed_more a b block i x h e s f =
    let y : ℕ = bit_xor (slice_index b i) x in
    below_more (λ k. slice_index (set b i y) k ≡ mixed_at a block k) i
    (λ k l. get_or-set_other b i k y 0 (omega arith) ∙ f k l) (get_or-set_same b i y 0 h ∙ ap₂ bit_xor s e)

-- a state whose first nine lanes have taken the block in
pub mixed_all : (a b block : List ℕ) (i : ℕ) → i ≡ 9 → length block ≡ 72 → length b ≡ 25
    → ((k : ℕ) → k < i → slice_index b k ≡ mixed_at a block k) → ((k : ℕ) → i ≤ k → slice_index b k ≡ slice_index a k) → b ≡ mixed a block
unfolding mixed
mixed_all a b block i e n m f g =
    all_lanes (mixed_at a block) b m (λ k h. elim (split k) [ inl l ↦ f k l | inr l ↦ g k l ∙ past a block k n (omega arith) ])
  where
    split : (k : ℕ) → (k < i) ⊎ (i ≤ k)
    split k = search arith

-- the writes of 06 and 80 after a message that leaves n + 1 bytes of the block
pad_at : (n : ℕ) (m : List ℕ) → length m + n ≡ 71
    → slice_set (slice_set (m ++ zeros (suc n)) (length m) 6) 71 (bit_or (slice_index (slice_set (m ++ zeros (suc n)) (length m) 6) 71) 128) ≡ m ++ padding n
unfolding padding
pad_at zero m e =
    let l : length m ≡ 71 = omega arith in
    let F : List ℕ → List ℕ = λ x. set x 71 (bit_or (slice_index x 71) 128) in
    ap F (set_at m 0 [] 6 (length m) refl)
    ∙ ap (λ v. set (m ++ 6 ∷ []) 71 (bit_or v 128)) (get_or_at m 6 [] 0 71 l)
    ∙ set_at m 6 [] 134 71 l
pad_at (suc j) m e =
    let l : length (m ++ 6 ∷ zeros j) ≡ 71 = simp (length-append, length-replicate) (omega arith) in
    let F : List ℕ → List ℕ = λ x. set x 71 (bit_or (slice_index x 71) 128) in
    ap F (set_at m 0 (zeros (suc j)) 6 (length m) refl
    ∙ ap (λ x. m ++ 6 ∷ x) (ap zeros (sym (add-one j)) ∙ sym (replicate_more j 0))
    ∙ sym (append_assoc m (6 ∷ zeros j) (0 ∷ [])))
    ∙ ap (λ v. set ((m ++ 6 ∷ zeros j) ++ 0 ∷ []) 71 (bit_or v 128)) (get_or_at (m ++ 6 ∷ zeros j) 0 [] 0 71 l)
    ∙ set_at (m ++ 6 ∷ zeros j) 0 [] 128 71 l
    ∙ append_assoc m (6 ∷ zeros j) (128 ∷ [])

pub pad : (m r : List ℕ) (used : ℕ) → used < 72 → length m ≡ used → r ≡ m ++ zeros (72 - used)
    → slice_set (slice_set r used 6) 71 (bit_or (slice_index (slice_set r used 6) 71) 128) ≡ padded m
unfolding padded
pad m r used h l e =
    let F : List ℕ → ℕ → List ℕ = λ x u. set (slice_set x u 6) 71 (bit_or (slice_index (slice_set x u 6) 71) 128) in
    let n : 72 - used ≡ suc (71 - length m % 72) = omega arith in
    let k : length m + (71 - length m % 72) ≡ 71 = omega arith in
    ap₂ F (e ∙ ap (λ x. m ++ zeros x) n) (sym l) ∙ pad_at (71 - length m % 72) m k

-- the bytes of a state one by one, and how many they are
pub byte_of_digest : (xs : List ℕ) (i : ℕ) → i < 8 * length xs → slice_index (all_bytes xs) i ≡ byte_at xs i
unfolding all_bytes
byte_of_digest [] i h = absurd (omega arith)
byte_of_digest (x ∷ xs) i h = elim (cases i) [
  | inl l ↦ let q : 0 ≡ i / 8 = omega arith in let r : i ≡ i % 8 = omega arith in
      get_or_append_left (bytes_of x) (all_bytes xs) 0 i l ∙ ap₂ (λ y z. slice_index (bytes_of (slice_index (x ∷ xs) y)) z) q r
  | inr l ↦ let q : suc ((i - 8) / 8) ≡ i / 8 = omega arith in let r : (i - 8) % 8 ≡ i % 8 = omega arith in
      get_or-append_right (bytes_of x) (all_bytes xs) 8 i 0 refl l ∙ byte_of_digest xs (i - 8) (omega arith)
      ∙ ap₂ (λ y z. slice_index (bytes_of (slice_index (x ∷ xs) y)) z) q r
]
  where
    cases : (k : ℕ) → (k < 8) ⊎ (8 ≤ k)
    cases k = search arith

pub length_bytes : (xs : List ℕ) → length (all_bytes xs) ≡ 8 * length xs
unfolding all_bytes
length_bytes [] = refl
length_bytes (x ∷ xs) = let e = length_bytes xs in omega (arith, length-append (bytes_of x) (all_bytes xs), e)

pub squeezed_all : (a out : List ℕ) → length a ≡ 25 → length out ≡ 32 → ((k : ℕ) → k < 32 → slice_index out k ≡ byte_at a k)
    → out ≡ take 32 (take 64 (all_bytes a))
squeezed_all a out n m f =
    let e = length_bytes a in
    let l : length out ≡ length (take 32 (take 64 (all_bytes a))) = simp (length-take) (omega (arith, e)) in
    ext_get_or 0 out (take 32 (take 64 (all_bytes a))) l
    (λ k h. let p : k < 32 = omega arith in let q : k < 64 = omega arith in
    f k p ∙ sym (get_or-take 32 (take 64 (all_bytes a)) k 0 p ∙ get_or-take 64 (all_bytes a) k 0 q ∙ byte_of_digest a k (omega arith)))
