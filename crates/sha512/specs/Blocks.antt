-- What blocks, the padding and the bytes of the chaining value come to.
use Rattle.std.specs.Prelude.{◌≡◌, ℕ, suc, ◌+◌, ◌-◌, ◌*◌, ◌/◌, ◌%◌, ◌<◌, ◌≤◌, ◌⊎◌, List, [], ◌∷◌, ◌++◌, length, take, set, replicate, slice_index, slice_set, refl}
use Rattle.std.proofs.Common.{sym, ap, ap₂, ◌∙◌, append_assoc, inl, inr, div-one, arith}
use Rattle.std.proofs.lemmas.List.{length-take, length-append, length-replicate, get_or-take, take_at, drop_at, set_at, get_or_append_left, get_or-append_right, ext_get_or, append-nil, replicate-append-replicate}
use Rattle.sha512.specs.Sha512.{compress, blocks, absorb, bytes_of, padding, digest, byte_at}

pub absorb_block : (h b m : List ℕ) → length b ≡ 128 → absorb h (b ++ m) ≡ absorb (compress h b) m
unfolding absorb blocks
absorb_block h b m n =
    let l = length-append b m in
    let q : length (b ++ m) / 128 ≡ suc (length m / 128) = omega (arith, l) in
    ap (λ x. blocks x h (b ++ m)) q
    ∙ ap₂ (λ x y. blocks (length m / 128) (compress h x) y) (take_at b m 128 n) (drop_at b m 128 n)

absorb_none : (h : List ℕ) → absorb h [] ≡ h
unfolding absorb blocks
absorb_none h = refl

pub absorb_one : (h b : List ℕ) → length b ≡ 128 → absorb h b ≡ compress h b
absorb_one h b n = ap (absorb h) (sym (append-nil b)) ∙ absorb_block h b [] n ∙ absorb_none (compress h b)

-- bytes from the high one on, as to_be_bytes writes them
pub bytes_8 : (x : ℕ) → (x / 72057594037927936 % 256) ∷ (x / 281474976710656 % 256) ∷ (x / 1099511627776 % 256) ∷ (x / 4294967296 % 256) ∷ (x / 16777216 % 256) ∷ (x / 65536 % 256) ∷ (x / 256 % 256) ∷ (x % 256) ∷ [] ≡ bytes_of 8 x
unfolding bytes_of
bytes_8 x = let e : x / 1 ≡ x = div-one x in cc

pub bytes_16 : (x : ℕ) → (x / 1329227995784915872903807060280344576 % 256) ∷ (x / 5192296858534827628530496329220096 % 256) ∷ (x / 20282409603651670423947251286016 % 256) ∷ (x / 79228162514264337593543950336 % 256) ∷ (x / 309485009821345068724781056 % 256) ∷ (x / 1208925819614629174706176 % 256) ∷ (x / 4722366482869645213696 % 256) ∷ (x / 18446744073709551616 % 256) ∷ (x / 72057594037927936 % 256) ∷ (x / 281474976710656 % 256) ∷ (x / 1099511627776 % 256) ∷ (x / 4294967296 % 256) ∷ (x / 16777216 % 256) ∷ (x / 65536 % 256) ∷ (x / 256 % 256) ∷ (x % 256) ∷ [] ≡ bytes_of 16 x
unfolding bytes_of
bytes_16 x = let e : x / 1 ≡ x = div-one x in cc

-- the bytes in use and a bit 1
pub close : (m r : List ℕ) (used : ℕ) → used < 128 → length m ≡ used → r ≡ m ++ replicate (128 - used) 0
    → slice_set r used 128 ≡ m ++ 128 ∷ replicate (127 - used) 0
close m r used h n e =
    let z : 128 - used ≡ suc (127 - used) = omega arith in
    ap (λ x. set x used 128) (e ∙ ap (λ x. m ++ replicate x 0) z) ∙ set_at m 0 (replicate (127 - used) 0) 128 used n

-- a list and a bit 1, and then bits 0 in two parts
zeros_parts : (m : List ℕ) (n k j : ℕ) → n ≡ k + j → m ++ 128 ∷ replicate n 0 ≡ (m ++ 128 ∷ replicate k 0) ++ replicate j 0
zeros_parts m n k j e =
    ap (λ x. m ++ 128 ∷ replicate x 0) e
    ∙ ap (λ x. m ++ 128 ∷ x) (sym (replicate-append-replicate k j 0))
    ∙ sym (append_assoc m (128 ∷ replicate k 0) (replicate j 0))

-- the padding within the block that is in use
pub pad_one : (m last : List ℕ) (used taken k : ℕ) → used ≡ taken % 128 → used + 16 + k ≡ 127 → length m ≡ used → last ≡ m ++ 128 ∷ replicate (127 - used) 0
    → take 112 last ++ bytes_of 16 (8 * taken) ≡ m ++ padding taken
unfolding padding
pad_one m last used taken k u h n e =
    let p : k ≡ (239 - taken % 128) % 128 = omega arith in
    let l : length (m ++ 128 ∷ replicate k 0) ≡ 112 = simp (length-append, length-replicate) (omega arith) in
    ap (λ x. take 112 x ++ bytes_of 16 (8 * taken)) (e ∙ zeros_parts m (127 - used) k 16 (omega arith))
    ∙ ap (λ x. x ++ bytes_of 16 (8 * taken)) (take_at (m ++ 128 ∷ replicate k 0) (replicate 16 0) 112 l)
    ∙ append_assoc m (128 ∷ replicate k 0) (bytes_of 16 (8 * taken))
    ∙ ap (λ x. m ++ (128 ∷ replicate x 0 ++ bytes_of 16 (8 * taken))) p

-- the padding over the end of that block
pub pad_two : (m last zs : List ℕ) (used taken k : ℕ) → used ≡ taken % 128 → 112 ≤ used → last ≡ m ++ 128 ∷ replicate (127 - used) 0
    → k ≡ 112 → zs ≡ replicate k 0 → last ++ (zs ++ bytes_of 16 (8 * taken)) ≡ m ++ padding taken
unfolding padding
pad_two m last zs used taken k u h e f d =
    let p : (239 - taken % 128) % 128 ≡ (127 - used) + k = omega arith in
    ap₂ (λ x y. x ++ (y ++ bytes_of 16 (8 * taken))) e d
    ∙ sym (append_assoc (m ++ 128 ∷ replicate (127 - used) 0) (replicate k 0) (bytes_of 16 (8 * taken)))
    ∙ ap (λ x. x ++ bytes_of 16 (8 * taken)) (sym (zeros_parts m ((239 - taken % 128) % 128) (127 - used) k p))
    ∙ append_assoc m (128 ∷ replicate ((239 - taken % 128) % 128) 0) (bytes_of 16 (8 * taken))

length_8 : (x : ℕ) → length (bytes_of 8 x) ≡ 8
unfolding bytes_of
length_8 x = refl

pub byte_of_digest : (xs : List ℕ) (i : ℕ) → i < 8 * length xs → slice_index (digest xs) i ≡ byte_at xs i
unfolding digest
byte_of_digest [] i h = absurd (omega arith)
byte_of_digest (x ∷ xs) i h = elim (cases i) [
  | inl l ↦ let q : 0 ≡ i / 8 = omega arith in let r : i ≡ i % 8 = omega arith in
      get_or_append_left (bytes_of 8 x) (digest xs) 0 i (omega (arith, length_8 x)) ∙ ap₂ (λ y z. slice_index (bytes_of 8 (slice_index (x ∷ xs) y)) z) q r
  | inr l ↦ let q : suc ((i - 8) / 8) ≡ i / 8 = omega arith in let r : (i - 8) % 8 ≡ i % 8 = omega arith in
      get_or-append_right (bytes_of 8 x) (digest xs) 8 i 0 (length_8 x) l ∙ byte_of_digest xs (i - 8) (omega arith)
      ∙ ap₂ (λ y z. slice_index (bytes_of 8 (slice_index (x ∷ xs) y)) z) q r
]
  where
    cases : (k : ℕ) → (k < 8) ⊎ (8 ≤ k)
    cases k = search arith

pub length_digest : (xs : List ℕ) → length (digest xs) ≡ 8 * length xs
unfolding digest
length_digest [] = refl
length_digest (x ∷ xs) = let e = length_digest xs in omega (arith, length-append (bytes_of 8 x) (digest xs), length_8 x, e)

pub digest_all : (h out : List ℕ) → length h ≡ 8 → length out ≡ 32 → ((k : ℕ) → k < 32 → slice_index out k ≡ byte_at h k)
    → out ≡ take 32 (digest h)
digest_all h out n m f =
    let e = length_digest h in
    let l : length out ≡ length (take 32 (digest h)) = simp (length-take) (omega (arith, e)) in
    ext_get_or 0 out (take 32 (digest h)) l
    (λ k p. let q : k < 32 = omega arith in f k q ∙ sym (get_or-take 32 (digest h) k 0 q ∙ byte_of_digest h k (omega arith)))
