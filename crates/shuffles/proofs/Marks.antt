-- The number of ones of a vector that is marked place by place.
use Rattle.std.proofs.Common.{◌≡◌, ℕ, zero, suc, ◌+◌, ◌<◌, ◌≤◌, true, false, ltb, List, get_or, take, sym, refl, ap, ◌∙◌, inl, inr, arith}
use Rattle.std.proofs.lemmas.Bool.{cases_eq, cases_lt, lt-ltb, le-ltb}
use Rattle.bits.specs.Vectors.{Vector, weight}
use Rattle.shuffles.specs.Orders.{place_of, among, Permutation}
use Rattle.shuffles.proofs.Orders.{place_of_lem, at_place, among_first}

pub weight_same : (n : ℕ) (v w : Vector) → ((i : ℕ) → i < n → v i ≡ w i) → weight n v ≡ weight n w
unfolding weight
weight_same zero v w h = refl
weight_same (suc n) v w h = rw (weight_same n v w (λ i l. h i (omega arith)), h n (omega arith))

weight_none : (n : ℕ) (v : Vector) → ((i : ℕ) → i < n → v i ≡ false) → weight n v ≡ 0
unfolding weight
weight_none zero v h = refl
weight_none (suc n) v h = rw (weight_none n v (λ i l. h i (omega arith)), h n (omega arith))

-- one more one, at x
weight_more :
    (n x : ℕ) (v w : Vector) → x < n → v x ≡ false → w x ≡ true → ((i : ℕ) → i < n → (i ≡ x → ⊥) → w i ≡ v i)
    → weight n w ≡ weight n v + 1
unfolding weight
weight_more zero x v w l a b h = absurd (omega arith)
weight_more (suc n) x v w l a b h =
    elim (cases_eq x n) [
      | inl e ↦
          let s : weight n w ≡ weight n v = weight_same n w v (λ i m. h i (omega arith) (λ q. omega arith)) in
          let p : v n ≡ false = ap v (sym e) ∙ a in
          let q : w n ≡ true = ap w (sym e) ∙ b in
          rw (s, p, q) (omega arith)
      | inr d ↦
          let s : weight n w ≡ weight n v + 1 = weight_more n x v w (omega arith) a b (λ i m. h i (omega arith)) in
          rw (s, h n (omega arith) (λ q. d (sym q))) (omega arith)
    ]

weight_first : (n : ℕ) (l : List ℕ) → Permutation n l → (t : ℕ) → t ≤ n → weight n (λ i. ltb (place_of l i) t) ≡ t
weight_first n l p zero le = weight_none n (λ i. ltb (place_of l i) 0) (λ i m. le-ltb (place_of l i) 0 (omega arith))
weight_first n l p (suc t) le =
    let x = get_or l t 0 in
    let e : place_of l x ≡ t = place_of_lem n l p t (omega arith) in
    weight_more n x (λ i. ltb (place_of l i) t) (λ i. ltb (place_of l i) (suc t)) (p.below t (omega arith))
    (rw e (le-ltb t t (omega arith))) (rw e (lt-ltb t (suc t) (omega arith))) other
    ∙ (ap (λ k. k + 1) (weight_first n l p t (omega arith)) ∙ omega arith) where
      other : (i : ℕ) → i < n → (i ≡ get_or l t 0 → ⊥) → ltb (place_of l i) (suc t) ≡ ltb (place_of l i) t
      other i m d =
          let ne : place_of l i ≡ t → ⊥ = λ q. d (sym (at_place n l p i m) ∙ ap (λ k. get_or l k 0) q) in
          elim (cases_lt (place_of l i) t) [
            | inl h ↦ lt-ltb (place_of l i) (suc t) (omega arith) ∙ sym (lt-ltb (place_of l i) t h)
            | inr h ↦ le-ltb (place_of l i) (suc t) (omega arith) ∙ sym (le-ltb (place_of l i) t h)
          ]

-- the first t numbers of an order make t ones
pub weight_among : (n : ℕ) (l : List ℕ) → Permutation n l → (t : ℕ) → t ≤ n → weight n (among (take t l)) ≡ t
weight_among n l p t le =
    weight_same n (among (take t l)) (λ i. ltb (place_of l i) t) (λ i m. among_first n l p t i m) ∙ weight_first n l p t le
