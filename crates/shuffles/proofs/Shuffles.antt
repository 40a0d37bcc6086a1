-- A shuffle moves items about, and the order of the positions is a permutation.
use Rattle.std.proofs.Common.{◌≡◌, ℕ, zero, suc, ◌+◌, ◌-◌, ◌%◌, ◌<◌, ◌≤◌, Bool, cond, ◌⊎◌, List, [], ◌∷◌, length, get_or, count_by, sym, refl, ap, ◌∙◌, inl, inr, arith}
use Rattle.std.specs.List.{swap, range_with_len, ContainsAt as Has, AllByRecursion as All}
use Rattle.std.specs.List as slices
use Rattle.std.specs.List.Sorted.{IsPermutation}
use Rattle.std.proofs.ByRecursion.{All-get_or, All-from_get_or, has_shuffled, all_shuffled}
use Rattle.std.proofs.lemmas.Nat.{mod_below}
use Rattle.std.proofs.lemmas.List.FromFn.{length-range_with_len, get_or-range_with_len}
use Rattle.std.proofs.lemmas.List.Edits.{length-swap, swapped_from_swap}
use Rattle.std.proofs.lemmas.List.Sorted.{IsPermutation-refl, IsPermutation-swap, IsPermutation-trans, length_permutation, sum_by-IsPermutation, IsPermutation-keeps}
use Rattle.std.proofs.lemmas.Bool.{cases_eq}
use Rattle.bits.specs.Words.{word}
use Rattle.shuffles.specs.Shuffle.{shuffle_from, shuffled}
use Rattle.shuffles.specs.Orders.{order, Permutation}

shuffle_from_lem : {X : Type 0} (seed : List ℕ) (i w : ℕ) (xs : List X) → i ≤ length xs - 1 → IsPermutation xs (shuffle_from seed i w xs)
shuffle_from_lem seed zero w xs l = IsPermutation-refl xs
shuffle_from_lem {X} seed (suc i) w xs l =
    let j = word seed w % (suc i + 1) in
    let b : j < suc i + 1 = mod_below (word seed w) (suc i + 1) (omega arith) in
    let ys : List X = swap xs (suc i) j in
    let n : length ys ≡ length xs = length-swap xs (suc i) j in
    IsPermutation-trans xs ys (shuffle_from seed i ((w + 1) % 16) ys)
    (IsPermutation-swap xs ys (suc i) j (omega arith) (omega arith) refl)
    (shuffle_from_lem seed i ((w + 1) % 16) ys (omega arith))

pub shuffled_is : {X : Type 0} (seed : List ℕ) (xs : List X) → IsPermutation xs (shuffled seed xs)
shuffled_is seed xs = shuffle_from_lem seed (length xs - 1) 0 xs (omega arith)

pub keeps : {X : Type 0} (seed : List ℕ) (xs : List X) (p : X → Bool) → count_by p (shuffled seed xs) ≡ count_by p xs
keeps seed xs p = sum_by-IsPermutation (λ x. cond (p x) 1 0) xs (shuffled seed xs) (shuffled_is seed xs)

-- items at different places differ
Different : List ℕ → Type 0
Different l = (i j : ℕ) → i < length l → j < length l → get_or l i 0 ≡ get_or l j 0 → i ≡ j

counting_different : (n : ℕ) → Different (range_with_len 0 n)
unfolding Different
counting_different n i j li lj e =
    let k : length (range_with_len 0 n) ≡ n = length-range_with_len 0 n in
    omega (arith, e, get_or-range_with_len 0 n i 0 (omega arith), get_or-range_with_len 0 n j 0 (omega arith))

same_exchange : (l : List ℕ) (a b : ℕ) → slices.swap l a b ≡ swap l a b
same_exchange [] a b = refl
same_exchange (x ∷ l) a b = refl

-- where an item stood before an exchange
Came : ℕ → ℕ → ℕ → ℕ → Type 0
Came a b i s = ((i ≡ a) × (s ≡ b)) ⊎ (((i ≡ b) × (s ≡ a)) ⊎ ((i ≡ a → ⊥) × (i ≡ b → ⊥) × (s ≡ i)))

same_came : (a b i j s : ℕ) → Came a b i s → Came a b j s → i ≡ j
unfolding Came
same_came a b i j s p q =
    elim p [
      | inl x ↦ elim q [ inl y ↦ omega arith | inr r ↦ elim r [ inl y ↦ omega arith | inr y ↦ absurd (y.1 (omega arith)) ] ]
      | inr t ↦ elim t [
        | inl x ↦ elim q [ inl y ↦ omega arith | inr r ↦ elim r [ inl y ↦ omega arith | inr y ↦ absurd (y.0 (omega arith)) ] ]
        | inr x ↦ elim q [ inl y ↦ absurd (x.1 (omega arith)) | inr r ↦ elim r [ inl y ↦ absurd (x.0 (omega arith)) | inr y ↦ omega arith ] ]
      ]
    ]

module _ (l ys : List ℕ) (a b : ℕ) (la : a < length l) (lb : b < length l) (is : ys ≡ swap l a b) where
  came : (i : ℕ) → i < length l → (s : ℕ) × (s < length l) × (get_or ys i 0 ≡ get_or l s 0) × Came a b i s
  unfolding Came
  came i li =
      let w = swapped_from_swap l ys a b 0 la lb is in
      elim (cases_eq i a) [
        | inl e ↦ (b, lb, ap (λ k. get_or ys k 0) e ∙ w.0, inl (e, refl))
        | inr d ↦ elim (cases_eq i b) [
          | inl e ↦ (a, la, ap (λ k. get_or ys k 0) e ∙ w.1, inr (inl (e, refl)))
          | inr f ↦ (i, li, w.2 i d f, inr (inr (d, f, refl)))
        ]
      ]

  stays_different : Different l → Different ys
  unfolding Different
  stays_different h i j li lj e =
      let n : length ys ≡ length l = ap length is ∙ length-swap l a b in
      let x = came i (omega arith) in
      let y = came j (omega arith) in
      let q : x.0 ≡ y.0 = h x.0 y.0 x.1 y.1 (sym x.2 ∙ (e ∙ y.2)) in
      same_came a b i j x.0 x.3 (rw (sym q) at y.3)

order_shuffled : (n : ℕ) (seed : List ℕ) → IsPermutation (range_with_len 0 n) (order n seed)
unfolding order
order_shuffled n seed = shuffled_is seed (range_with_len 0 n)

order_different : (n : ℕ) (seed : List ℕ) → Different (order n seed)
order_different n seed =
    IsPermutation-keeps (range_with_len 0 n) Different (counting_different n)
    (λ l i j li lj h. stays_different l (slices.swap l i j) i j li lj (same_exchange l i j) h)
    (order n seed) (order_shuffled n seed)

order_long : (n : ℕ) (seed : List ℕ) → length (order n seed) ≡ n
order_long n seed = length_permutation (range_with_len 0 n) (order n seed) (order_shuffled n seed) ∙ length-range_with_len 0 n

order_below : (n : ℕ) (seed : List ℕ) → All (λ x. x < n) (order n seed)
order_below n seed =
    all_shuffled (λ x. x < n) (range_with_len 0 n) (order n seed) (order_shuffled n seed)
    (All-from_get_or (λ x. x < n) (range_with_len 0 n) 0 (λ i l. let k = length-range_with_len 0 n in rw (get_or-range_with_len 0 n i 0 (omega arith)) (omega arith)))

pub order_permutes : (n : ℕ) (seed : List ℕ) → Permutation n (order n seed)
unfolding Different
order_permutes n seed =
    let k = order_long n seed in
    record {
      long = order_long n seed;
      below = λ j l. All-get_or (λ x. x < n) (order n seed) j 0 (omega arith) (order_below n seed);
      different = λ i j li lj e. order_different n seed i j (omega arith) (omega arith) e;
      reached =
          λ i l. let m = length-range_with_len 0 n in
          let h : Has (order n seed) i = has_shuffled (range_with_len 0 n) (order n seed) i (order_shuffled n seed) (i, omega arith, λ d. get_or-range_with_len 0 n i d l ∙ omega arith) in
          (h.0, omega (arith, h.1), h.2 0);
    }
