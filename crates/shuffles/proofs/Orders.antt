-- Places in an order, and vectors that are filled one place a turn.
use Rattle.std.proofs.Common.{◌≡◌, ℕ, zero, suc, ◌+◌, ◌*◌, ◌<◌, ◌≤◌, Bool, ◌&&◌, ltb, List, [], ◌∷◌, length, get_or, take, replicate, sym, refl, ap, ◌∙◌, inl, inr, arith}
use lib.Dec.{leb-suc-suc}
use Rattle.std.proofs.lemmas.Bool.{cases_eq, cases_lt, eq-eqb, ne_eqb, lt-ltb, le-ltb}
use Rattle.bits.specs.Vectors.{Vector}
use Rattle.bits.specs.Packed.{vector, packed, Bytes, BitAdded}
use Rattle.bits.proofs.Packing.{packed_is}
use Rattle.bits.proofs.Sums.{xor_zero}
use Rattle.bits.proofs.Places.{zeros_vector}
use Rattle.shuffles.specs.Orders.{place_of, among, Permutation}

-- where a number stands in a list that has it
place_found :
    (l : List ℕ) (i j : ℕ) → j < length l → get_or l j 0 ≡ i → (place_of l i ≤ j) × (get_or l (place_of l i) 0 ≡ i)
unfolding place_of
place_found [] i j lt e = absurd (omega arith)
place_found (x ∷ l) i zero lt e = rw (eq-eqb x i e) (omega arith, e)
place_found (x ∷ l) i (suc j) lt e =
    elim (cases_eq x i) [
      | inl q ↦ rw (eq-eqb x i q) (omega arith, q)
      | inr d ↦ let h = place_found l i j (omega arith) e in rw (ne_eqb x i d) (omega (arith, h.0), h.1)
    ]

module _ (n : ℕ) (l : List ℕ) (p : Permutation n l) where
  pub place_below : (i : ℕ) → i < n → place_of l i < n
  place_below i lt =
      let r = p.reached i lt in
      omega (arith, (place_found l i r.0 (omega (arith, p.long, r.1)) r.2).0, r.1)

  -- l lists i at the place of i
  pub at_place : (i : ℕ) → i < n → get_or l (place_of l i) 0 ≡ i
  at_place i lt =
      let r = p.reached i lt in
      (place_found l i r.0 (omega (arith, p.long, r.1)) r.2).1

  -- and the place of what it lists at j is j
  pub place_of_lem : (j : ℕ) → j < n → place_of l (get_or l j 0) ≡ j
  place_of_lem j lt =
      let b = p.below j lt in
      p.different (place_of l (get_or l j 0)) j (place_below (get_or l j 0) b) lt (at_place (get_or l j 0) b)

first :
    (l : List ℕ) (t i j : ℕ) → j < length l → get_or l j 0 ≡ i → among (take t l) i ≡ ltb (place_of l i) t
unfolding among place_of
first [] t i j lj e = absurd (omega arith)
first (x ∷ l) zero i j lj e = sym (le-ltb (place_of (x ∷ l) i) 0 (omega arith))
first (x ∷ l) (suc t) i zero lj e = rw (eq-eqb i x (sym e), eq-eqb x i e) (sym (lt-ltb 0 (suc t) (omega arith)))
first (x ∷ l) (suc t) i (suc j) lj e =
    elim (cases_eq x i) [
      | inl q ↦ rw (eq-eqb i x (sym q), eq-eqb x i q) (sym (lt-ltb 0 (suc t) (omega arith)))
      | inr d ↦
          rw (ne_eqb i x (λ q. d (sym q)), ne_eqb x i d)
          (first l t i j (omega arith) e ∙ sym (leb-suc-suc (suc (place_of l i)) t))
    ]

-- a number is among the first t exactly if its place is below t
pub among_first : (n : ℕ) (l : List ℕ) → Permutation n l → (t i : ℕ) → i < n → among (take t l) i ≡ ltb (place_of l i) t
among_first n l p t i lt = let r = p.reached i lt in first l t i r.0 (omega (arith, p.long, r.1)) r.2

-- the places whose turn has come hold f, and the others nothing
unfoldable pub Filled : ℕ → (ℕ → ℕ) → Vector → ℕ → List ℕ → Type 0
Filled n turn f j xs = (i : ℕ) → i < n → vector xs i ≡ (ltb (turn i) j && f i)

pub filled_none : (n q : ℕ) (turn : ℕ → ℕ) (f : Vector) (xs : List ℕ) → xs ≡ replicate q 0 → Filled n turn f 0 xs
unfolding Filled
filled_none n q turn f xs e i l = ap (λ (ys : List ℕ). vector ys i) e ∙ (zeros_vector q i ∙ rw (le-ltb (turn i) 0 (omega arith)))

pub filled_more :
    (n : ℕ) (turn : ℕ → ℕ) (f : Vector) (j at : ℕ) (b : Bool) (xs ys : List ℕ) → turn at ≡ j → ((i : ℕ) → i < n → turn i ≡ j → i ≡ at)
    → b ≡ f at → BitAdded at b xs ys → Filled n turn f j xs → Filled n turn f (j + 1) ys
unfolding Filled
filled_more n turn f j at b xs ys t only e h before i l =
    elim (cases_eq i at) [
      | inl q ↦
          h i ∙ rw (before i l, q, eq-eqb at at refl, t, le-ltb j j (omega arith), lt-ltb j (j + 1) (omega arith)) e
      | inr d ↦
          h i ∙ rw (ne_eqb i at d) (xor_zero (vector xs i) ∙ (before i l ∙ ap (λ c. c && f i) (same (λ q. d (only i l q)))))
    ] where
      same : (turn i ≡ j → ⊥) → ltb (turn i) j ≡ ltb (turn i) (j + 1)
      same d =
          elim (cases_lt (turn i) j) [
            | inl m ↦ lt-ltb (turn i) j m ∙ sym (lt-ltb (turn i) (j + 1) (omega arith))
            | inr m ↦ le-ltb (turn i) j m ∙ sym (le-ltb (turn i) (j + 1) (omega arith))
          ]

pub filled_all :
    (n : ℕ) (turn : ℕ → ℕ) (f : Vector) (j : ℕ) (xs : List ℕ) → ((i : ℕ) → i < n → turn i < j) → Filled n turn f j xs
    → (i : ℕ) → i < n → vector xs i ≡ f i
unfolding Filled
filled_all n turn f j xs h filled i l = filled i l ∙ rw (lt-ltb (turn i) j (h i l))

pub filled_packed :
    (n q : ℕ) (turn : ℕ → ℕ) (f : Vector) (j : ℕ) (xs : List ℕ) → n ≡ 8 * q → length xs ≡ q → Bytes xs → ((i : ℕ) → i < n → turn i < j)
    → Filled n turn f j xs → xs ≡ packed q f
filled_packed n q turn f j xs e long small h filled =
    packed_is q f xs long small (λ i l. filled_all n turn f j xs h filled i (omega arith))
