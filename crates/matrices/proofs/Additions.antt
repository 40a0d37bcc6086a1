-- One addition of bytes after another.
use Rattle.std.proofs.Common.{◌≡◌, ℕ, ◌+◌, ◌-◌, ◌<◌, ◌≤◌, List, length, get_or, take, drop, bit_xor, sym, ◌∙◌, inl, inr, arith, rules}
use borrow.Rule.Slice.PartMut.{put_mid}
use Rattle.std.proofs.lemmas.List.{places}
use Rattle.matrices.specs.Rows.{Apart, Summed}
use Rattle.matrices.proofs.Rows.{part_at}
use lib.Lanes.{zip2, chunk, put_chunk}
use Rattle.std.proofs.lemmas.Bool.{cases_lt}
use Rattle.std.proofs.lemmas.Simd.{get_or-zip2, length-zip2, length-chunk, get_or-chunk, get_or-put_chunk_below, get_or-put_chunk_at, get_or-put_chunk_above}

-- zs is xs, with the bytes of ys below n added
pub record AddedTo (n : ℕ) (xs ys zs : List ℕ) : Type 0 where
  pub done : (k : ℕ) → k < n → get_or zs k 0 ≡ bit_xor (get_or xs k 0) (get_or ys k 0)
  pub rest : (k : ℕ) → n ≤ k → get_or zs k 0 ≡ get_or xs k 0

-- n bytes more
pub lanes_more :
    (n a : ℕ) (xs ys zs : List ℕ) → a + n ≤ length zs → a + n ≤ length ys → AddedTo a xs ys zs
    → AddedTo (a + n) xs ys (put_chunk a zs (zip2 bit_xor (chunk a n zs) (chunk a n ys)))
lanes_more n a xs ys zs la lb h = record { done = done; rest = λ k l. get_or-put_chunk_above a zs us k 0 (omega (arith, lu)) ∙ h.rest k (omega arith) } where
  us : List ℕ
  us = zip2 bit_xor (chunk a n zs) (chunk a n ys)

  ca : length (chunk a n zs) ≡ n
  ca = length-chunk a n zs la

  cb : length (chunk a n ys) ≡ n
  cb = length-chunk a n ys lb

  lu : length us ≡ n
  lu = length-zip2 bit_xor (chunk a n zs) (chunk a n ys) (ca ∙ sym cb) ∙ ca

  here : (k : ℕ) → k < n → get_or (put_chunk a zs us) (a + k) 0 ≡ bit_xor (get_or xs (a + k) 0) (get_or ys (a + k) 0)
  here k l =
      get_or-put_chunk_at a zs us k 0 (omega (arith, lu)) (omega (arith, lu))
      ∙ (get_or-zip2 bit_xor (chunk a n zs) (chunk a n ys) k 0 0 0 (omega (arith, ca)) (omega (arith, cb))
      ∙ rw (get_or-chunk a n zs k 0 l, get_or-chunk a n ys k 0 l, h.rest (a + k) (omega arith)))

  done : (k : ℕ) → k < a + n → get_or (put_chunk a zs us) k 0 ≡ bit_xor (get_or xs k 0) (get_or ys k 0)
  done k l =
      elim (cases_lt k a) [
        | inl m ↦ get_or-put_chunk_below a zs us k 0 m ∙ h.done k m
        | inr m ↦ let s : a + (k - a) ≡ k = omega arith in rw s at (here (k - a) (omega arith))
      ]

-- and the last ones
pub rest_more :
    (n m a : ℕ) (xs ys zs us : List ℕ) → length zs ≡ a + n → m ≡ n → length us ≡ n → AddedTo a xs ys zs
    → ((k : ℕ) → k < n → get_or us k 0 ≡ bit_xor (get_or (take n (drop a zs)) k 0) (get_or (take m (drop a ys)) k 0))
    → (k : ℕ) → k < a + n → get_or (put_mid a n zs us) k 0 ≡ bit_xor (get_or xs k 0) (get_or ys k 0)
rest_more n m a xs ys zs us lz lm lu h each k l =
    elim (cases_lt k a) [
      | inl p ↦ let e : get_or (put_mid a n zs us) k 0 ≡ get_or zs k 0 = search (rules, places) in e ∙ h.done k p
      | inr p ↦ let s : a + (k - a) ≡ k = omega arith in rw s at (here (k - a) (omega arith))
    ] where
      here : (q : ℕ) → q < n → get_or (put_mid a n zs us) (a + q) 0 ≡ bit_xor (get_or xs (a + q) 0) (get_or ys (a + q) 0)
      here q p =
          let e : get_or (put_mid a n zs us) (a + q) 0 ≡ get_or us q 0 = search (rules, places) in
          e ∙ (each q p ∙ rw (part_at n a q zs p, part_at m a q ys (omega arith), h.rest (a + q) (omega arith)))

-- fewer places from the same ones on have none in common either
pub apart_less : (n k a b : ℕ) → k ≤ n → Apart n a b → Apart k a b
apart_less n k a b l h = elim h [ inl p ↦ inl (omega arith) | inr p ↦ inr (omega arith) ]

-- k bytes added, and then the i bytes behind them
pub summed_join :
    (n k i into from : ℕ) (xs ys zs : List ℕ) → n ≡ k + i → Apart n into from → Summed k into from xs ys
    → Summed i (into + k) (from + k) ys zs → Summed n into from xs zs
summed_join n k i into from xs ys zs e apart a b =
    record {
      done = done;
      before = λ q l. b.before q (omega arith) ∙ a.before q l;
      after = λ q l. b.after q (omega arith) ∙ a.after q (omega arith);
    } where
      other : (q : ℕ) → k ≤ q → q < n → get_or ys (from + q) 0 ≡ get_or xs (from + q) 0
      other q l m =
          elim apart [ inl p ↦ a.after (from + q) (omega arith) | inr p ↦ a.before (from + q) (omega arith) ]

      later : (q : ℕ) → q < i → get_or zs (into + (k + q)) 0 ≡ bit_xor (get_or xs (into + (k + q)) 0) (get_or xs (from + (k + q)) 0)
      later q l =
          let s : into + (k + q) ≡ into + k + q = omega arith in
          let t : from + (k + q) ≡ from + k + q = omega arith in
          let u : get_or ys (into + (k + q)) 0 ≡ get_or xs (into + (k + q)) 0 = a.after (into + (k + q)) (omega arith) in
          let v : get_or ys (from + (k + q)) 0 ≡ get_or xs (from + (k + q)) 0 = other (k + q) (omega arith) (omega arith) in
          rw (← u, ← v, s, t) (b.done q l)

      done : (q : ℕ) → q < n → get_or zs (into + q) 0 ≡ bit_xor (get_or xs (into + q) 0) (get_or xs (from + q) 0)
      done q l =
          elim (cases_lt q k) [
            | inl m ↦ b.before (into + q) (omega arith) ∙ a.done q m
            | inr m ↦ let s : k + (q - k) ≡ q = omega arith in rw s at (later (q - k) (omega arith))
          ]

-- n bytes of one list added to others of it at once
pub lanes_step :
    (n a b : ℕ) (xs : List ℕ) → a + n ≤ length xs → b + n ≤ length xs
    → Summed n a b xs (put_chunk a xs (zip2 bit_xor (chunk a n xs) (chunk b n xs)))
lanes_step n a b xs la lb =
    record {
      done = done;
      before = λ k l. get_or-put_chunk_below a xs ys k 0 l;
      after = λ k l. get_or-put_chunk_above a xs ys k 0 (omega (arith, ly));
    } where
      ys : List ℕ
      ys = zip2 bit_xor (chunk a n xs) (chunk b n xs)

      ca : length (chunk a n xs) ≡ n
      ca = length-chunk a n xs la

      cb : length (chunk b n xs) ≡ n
      cb = length-chunk b n xs lb

      ly : length ys ≡ n
      ly = length-zip2 bit_xor (chunk a n xs) (chunk b n xs) (ca ∙ sym cb) ∙ ca

      done : (k : ℕ) → k < n → get_or (put_chunk a xs ys) (a + k) 0 ≡ bit_xor (get_or xs (a + k) 0) (get_or xs (b + k) 0)
      done k l =
          get_or-put_chunk_at a xs ys k 0 (omega (arith, ly)) (omega (arith, ly))
          ∙ (get_or-zip2 bit_xor (chunk a n xs) (chunk b n xs) k 0 0 0 (omega (arith, ca)) (omega (arith, cb))
          ∙ rw (get_or-chunk a n xs k 0 l, get_or-chunk b n xs k 0 l))
