-- The numbers that the tests find in memory are those of the key.
use Rattle.std.proofs.Common.{◌≡◌, ℕ, ◌+◌, ◌-◌, ◌*◌, ◌^◌, ◌<◌, ◌≤◌, false, not, ◌||◌, eqb, ltb, List, [], ◌∷◌, ◌++◌, map, length, get_or, take, drop, set, sym, refl, ap, ◌∙◌, arith}
use Rattle.std.proofs.lemmas.List.FromFn.{length-map-range_with_len, get_or-map-range_with_len, fill_by_all}
use Rattle.std.proofs.lemmas.List.{length-append, length-take-le, get_or_append_left, get_or-take, drop_more, drop_all, set_at, take_rest}
use Rattle.std.proofs.lemmas.Bool.{eqb-true, not-false}
use Rattle.std.specs.List.{range_with_len}
use Rattle.levels.specs.declared.Sizes.{Sizes}
use Rattle.levels.specs.Table.{Lawful}
use Rattle.algebra.specs.Field.{Ops, Places}
use Rattle.bits.specs.Vectors.{◌⊕◌, Matrix, weight}
use Rattle.bits.specs.Packed.{matrix}
use Rattle.bits.specs.Words.{word}
use Rattle.bits.specs.Search.{first_place}
use Rattle.bits.specs.Rank.{rank_of}
use Rattle.bits.proofs.Decision.{weight_same, none_weight}
use Rattle.bits.proofs.RankOf.{rank_same}
use Rattle.bits.proofs.Search.{first_same, first_before}
use Rattle.bits.proofs.Sums.{xor_same}
use Rattle.shuffles.specs.Orders.{order, among}
use Rattle.goppa.specs.Matrix.{mixed_matrix}
use Rattle.keys.specs.Secret.{support_in, goppa_in, matrix_in, mixing_in, mixed_in, matrix_from, mixing_from}
use Rattle.keys.specs.Sound.{no_place, zero_at}
use Rattle.soundness.specs.Parts.{words_from}

-- a list with its front written, and then its last entry
pub monic_set :
    (t : ℕ) (xs old : List ℕ) (x : ℕ) → length xs ≡ t → length old ≡ t + 1 → set (xs ++ drop (t - 0) old) t x ≡ xs ++ (x ∷ [])
monic_set t xs old x n l =
    let z : t - 0 ≡ t = omega arith in
    let e : drop t old ≡ get_or old t 0 ∷ [] = drop_more old t 0 (omega arith) ∙ ap (λ (r : List ℕ). get_or old t 0 ∷ r) (drop_all (t + 1) old (omega arith)) in
    rw (z, e) (set_at xs (get_or old t 0) [] x t n)

-- the words of a key as its support
pub support_words : (s : Sizes) (key : List ℕ) → words_from key 0 s.n ≡ support_in s key
unfolding words_from support_in
support_words s key =
    fill_by_all (word key) (map (λ i. word key (0 + i)) (range_with_len 0 s.n)) s.n 0 (length-map-range_with_len (λ i. word key (0 + i)) 0 s.n)
    (λ k l. get_or-map-range_with_len (λ i. word key (0 + i)) 0 s.n k k 0 l (omega arith) ∙ ap (word key) (omega arith))

module _ (s : Sizes) (key : List ℕ) where
  pub support_long : length (support_in s key) ≡ s.n
  unfolding support_in
  support_long = length-map-range_with_len (word key) 0 s.n

  pub support_entry : (j : ℕ) → j < s.n → get_or (support_in s key) j 0 ≡ word key j
  unfolding support_in
  support_entry j l = get_or-map-range_with_len (word key) 0 s.n j j 0 l (omega arith)

module _ {A : Type 0} {m : ℕ} (f : Ops A) (pl : Places A m) (s : Sizes) (key : List ℕ) where
  -- the words after the support, with one behind them
  pub goppa_words : words_from key s.n s.t ++ (pl.num f.one ∷ []) ≡ goppa_in f pl s key
  unfolding words_from goppa_in
  goppa_words = refl

  pub goppa_long : length (goppa_in f pl s key) ≡ s.t + 1
  unfolding goppa_in
  goppa_long =
      simp length-append (omega (arith, length-map-range_with_len (λ i. word key (s.n + i)) 0 s.t))

  pub goppa_entry : (i : ℕ) → i < s.t → get_or (goppa_in f pl s key) i 0 ≡ word key (s.n + i)
  unfolding goppa_in
  goppa_entry i l =
      let n = length-map-range_with_len (λ i. word key (s.n + i)) 0 s.t in
      get_or_append_left (map (λ i. word key (s.n + i)) (range_with_len 0 s.t)) (pl.num f.one ∷ []) 0 i (omega arith)
      ∙ get_or-map-range_with_len (λ i. word key (s.n + i)) 0 s.t i i 0 l (omega arith)

  module _ (support g : List ℕ) (es : support ≡ support_in s key) (eg : g ≡ goppa_in f pl s key) where
    pub support_number :
        (size at : ℕ) → size ≡ 2 ^ m → at ≡ first_place (length support) (λ j. not (ltb (get_or support j 0) size) || among (take j support) (get_or support j 0))
        → at ≡ first_place s.n (λ j. no_place m (word key j) || among (take j (support_in s key)) (word key j))
    support_number size at e h =
        h
        ∙ rw (es, e, support_long s key)
        (first_same s.n (λ j. no_place m (get_or (support_in s key) j 0) || among (take j (support_in s key)) (get_or (support_in s key) j 0))
        (λ j. no_place m (word key j) || among (take j (support_in s key)) (word key j))
        (λ j l. ap (λ x. no_place m x || among (take j (support_in s key)) x) (support_entry s key j l)))

    pub coefficient_number :
        (size at k : ℕ) → size ≡ 2 ^ m → k ≡ s.t → at ≡ first_place (length (take k g)) (λ i. not (ltb (get_or (take k g) i 0) size))
        → at ≡ first_place s.t (λ i. no_place m (word key (s.n + i)))
    coefficient_number size at k e ek h =
        let n : length (take k g) ≡ s.t = length-take-le k g (omega (arith, ap length eg, goppa_long)) ∙ ek in
        h
        ∙ rw (n, e)
        (first_same s.t (λ i. no_place m (get_or (take k g) i 0)) (λ i. no_place m (word key (s.n + i)))
        (λ i l. ap (no_place m) (get_or-take k g i 0 (omega arith) ∙ (ap (λ (x : List ℕ). get_or x i 0) eg ∙ goppa_entry i l))))

    pub clash_number :
        (at : ℕ) → at ≡ first_place (length support) (λ j. zero_at f pl g (get_or support j 0))
        → at ≡ first_place s.n (λ j. zero_at f pl (goppa_in f pl s key) (word key j))
    clash_number at h =
        h
        ∙ rw (es, eg, support_long s key)
        (first_same s.n (λ j. zero_at f pl (goppa_in f pl s key) (get_or (support_in s key) j 0)) (λ j. zero_at f pl (goppa_in f pl s key) (word key j))
        (λ j l. ap (zero_at f pl (goppa_in f pl s key)) (support_entry s key j l)))

    pub zeros_number : (found : ℕ) → found ≡ weight (2 ^ m) (zero_at f pl g) → found ≡ weight (2 ^ m) (zero_at f pl (goppa_in f pl s key))
    zeros_number found h = h ∙ rw eg

    -- the front of HP, written column by column
    pub mixed_front :
        Lawful s → (bits t : ℕ) (B : Matrix) (l mixing : List ℕ) → bits ≡ s.m → t ≡ s.t → l ≡ order s.n mixing → mixing ≡ mixing_in s key
        → ((i j : ℕ) → i < bits * t → j < 8 * s.body → B i j ≡ mixed_matrix f pl t g support l i j)
        → (i j : ℕ) → i < s.rows → j < s.rows → B i j ≡ mixed_in f pl s key i j
    mixed_front h bits t B l mixing eb et el em is i j p q =
        let r : bits * t ≡ s.rows = rw (eb, et) (sym h.rows) in
        is i j (omega arith) (omega (arith, h.body)) ∙ rw (et, el, em, es, eg)

-- the matrix and the mixing seed, as parts of the key
pub matrix_part : (s : Sizes) (key : List ℕ) → matrix s.body (take (length key - matrix_from s) (drop (matrix_from s) key)) ≡ matrix_in s key
unfolding matrix_in
matrix_part s key = ap (matrix s.body) (take_rest key (matrix_from s))

mixing_part : (s : Sizes) (key : List ℕ) → take 32 (take (length key - mixing_from s) (drop (mixing_from s) key)) ≡ mixing_in s key
unfolding mixing_in
mixing_part s key = ap (take 32) (take_rest key (mixing_from s))

pub order_read :
    (s : Sizes) (key l seed : List ℕ) (n : ℕ) → n ≡ s.n → seed ≡ take 32 (take (length key - mixing_from s) (drop (mixing_from s) key)) → l ≡ order n seed
    → l ≡ order s.n (mixing_in s key)
order_read s key l seed n e es h = h ∙ rw (e, es, mixing_part s key)

mixing_bytes : (s : Sizes) (key : List ℕ) → take (mixing_from s + 32 - mixing_from s) (drop (mixing_from s) key) ≡ mixing_in s key
unfolding mixing_in
mixing_bytes s key = let e : mixing_from s + 32 - mixing_from s ≡ 32 = omega arith in rw e

-- the same, by the 32 bytes of the key from where its mixing seed begins
pub order_read_at :
    (s : Sizes) (key l : List ℕ) (n : ℕ) → n ≡ s.n → l ≡ order n (take (mixing_from s + 32 - mixing_from s) (drop (mixing_from s) key))
    → l ≡ order s.n (mixing_in s key)
order_read_at s key l n e h = h ∙ rw (e, mixing_bytes s key)

-- rows in which two matrices differ
module _ (r : ℕ) (M : Matrix) where
  pub same_rows :
      (HP : Matrix) → ((i : ℕ) → i < r → not (eqb (weight r (λ j. M i j ⊕ HP i j)) 0) ≡ false) → (i j : ℕ) → i < r → j < r → M i j ≡ HP i j
  same_rows HP h i j p q =
      xor_same (M i j) (HP i j)
      (none_weight r (λ j. M i j ⊕ HP i j) (eqb-true (weight r (λ j. M i j ⊕ HP i j)) 0 (not-false (eqb (weight r (λ j. M i j ⊕ HP i j)) 0) (h i p))) j q)

  pub difference_number :
      (at w : ℕ) (B HP : Matrix) → r ≡ w → ((i j : ℕ) → i < r → j < r → B i j ≡ HP i j) → at ≡ first_place r (λ i. not (eqb (weight w (λ j. M i j ⊕ B i j)) 0))
      → at ≡ first_place r (λ i. not (eqb (weight r (λ j. M i j ⊕ HP i j)) 0))
  difference_number at w B HP e same h =
      h
      ∙ rw (← e)
      (first_same r (λ i. not (eqb (weight r (λ j. M i j ⊕ B i j)) 0)) (λ i. not (eqb (weight r (λ j. M i j ⊕ HP i j)) 0))
      (λ i l. ap (λ k. not (eqb k 0)) (weight_same r (λ j. M i j ⊕ B i j) (λ j. M i j ⊕ HP i j) (λ j q. ap (λ b. M i j ⊕ b) (same i j l q)))))

  pub rank_number :
      (at found w : ℕ) (B HP : Matrix) → r ≡ w → ((i j : ℕ) → i < r → j < r → B i j ≡ HP i j)
      → at ≡ first_place r (λ i. not (eqb (weight r (λ j. M i j ⊕ HP i j)) 0)) → r ≤ at → found ≡ rank_of r B w → found ≡ rank_of r M r
  rank_number at found w B HP e same h l is =
      is
      ∙ rw (← e)
      (rank_same r r B M
      (λ i j p q. same_rows HP (λ x y. first_before r (λ i. not (eqb (weight r (λ j. M i j ⊕ HP i j)) 0)) x (omega arith)) i j p q ∙ sym (same i j p q)))
