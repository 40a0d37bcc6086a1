-- A sum over the numbers below n is the same in another order: weights and products of permuted vectors.
use Rattle.std.proofs.Common.{◌≡◌, ℕ, zero, suc, ◌+◌, ◌<◌, ◌≤◌, false, cond, ◌&&◌, ltb, List, get_or, sym, refl, ap, ◌∙◌, inl, inr, add-zero, add_assoc, add_comm, arith}
use Rattle.std.proofs.lemmas.Bool.{cases_eq, cases_lt, lt-ltb, le-ltb}
use Rattle.bits.specs.Vectors.{◌⊕◌, Vector, dot, weight}
use Rattle.bits.proofs.Sums.{xor_zero, xor_assoc, xor_comm}
use Rattle.shuffles.specs.Orders.{place_of, perm, perm_inv, Permutation}
use Rattle.shuffles.proofs.Orders.{place_of_lem, at_place, place_below}

module _ {X : Type 0} (z : X) (add : X → X → X) (unit : (x : X) → add x z ≡ x) (assoc : (x y w : X) → add (add x y) w ≡ add x (add y w)) (comm : (x y : X) → add x y ≡ add y x) where
  total : ℕ → (ℕ → X) → X
  total zero h = z
  total (suc n) h = add (total n h) (h n)

  total_same : (n : ℕ) (g h : ℕ → X) → ((i : ℕ) → i < n → g i ≡ h i) → total n g ≡ total n h
  unfolding total
  total_same zero g h e = refl
  total_same (suc n) g h e = rw (total_same n g h (λ i l. e i (omega arith)), e n (omega arith))

  total_none : (n : ℕ) (h : ℕ → X) → ((i : ℕ) → i < n → h i ≡ z) → total n h ≡ z
  unfolding total
  total_none zero h e = refl
  total_none (suc n) h e = rw (total_none n h (λ i l. e i (omega arith)), e n (omega arith)) (unit z)

  swapped : (a b d : X) → add (add a b) d ≡ add (add a d) b
  swapped a b d = assoc a b d ∙ (ap (add a) (comm b d) ∙ sym (assoc a d b))

  -- one more summand, at x
  total_more :
      (n x : ℕ) (g h : ℕ → X) → x < n → g x ≡ z → ((i : ℕ) → i < n → (i ≡ x → ⊥) → h i ≡ g i) → total n h ≡ add (total n g) (h x)
  unfolding total
  total_more zero x g h l a e = absurd (omega arith)
  total_more (suc n) x g h l a e =
      elim (cases_eq x n) [
        | inl q ↦
            let s : total n h ≡ total n g = total_same n h g (λ i m. e i (omega arith) (λ p. omega arith)) in
            let p : g n ≡ z = ap g (sym q) ∙ a in
            rw (s, p, q) (ap (λ (w : X). add w (h n)) (sym (unit (total n g))))
        | inr d ↦
            let s : total n h ≡ add (total n g) (h x) = total_more n x g h (omega arith) a (λ i m. e i (omega arith)) in
            rw (s, e n (omega arith) (λ q. d (sym q))) (swapped (total n g) (h x) (g n))
      ]

  module _ (n : ℕ) (l : List ℕ) (p : Permutation n l) (h : ℕ → X) where
    -- the summands at the first t places of the order
    masked : ℕ → ℕ → X
    masked t k = cond (ltb (place_of l k) t) (h k) z

    turns : (t k : ℕ) → k < n → (k ≡ get_or l t 0 → ⊥) → ltb (place_of l k) (suc t) ≡ ltb (place_of l k) t
    turns t k m d =
        let ne : place_of l k ≡ t → ⊥ = λ q. d (sym (at_place n l p k m) ∙ ap (λ i. get_or l i 0) q) in
        elim (cases_lt (place_of l k) t) [
          | inl b ↦ lt-ltb (place_of l k) (suc t) (omega arith) ∙ sym (lt-ltb (place_of l k) t b)
          | inr b ↦ le-ltb (place_of l k) (suc t) (omega arith) ∙ sym (le-ltb (place_of l k) t b)
        ]

    total_first : (t : ℕ) → t ≤ n → total n (masked t) ≡ total t (λ j. h (get_or l j 0))
    unfolding total masked
    total_first zero le = total_none n (masked 0) (λ k m. rw (le-ltb (place_of l k) 0 (omega arith)))
    total_first (suc t) le =
        let x = get_or l t 0 in
        let q : place_of l x ≡ t = place_of_lem n l p t (omega arith) in
        let here : masked (suc t) x ≡ h x = rw (q, lt-ltb t (suc t) (omega arith)) in
        total_more n x (masked t) (masked (suc t)) (p.below t (omega arith)) (rw (q, le-ltb t t (omega arith)))
        (λ k m d. ap (λ b. cond b (h k) z) (turns t k m d))
        ∙ rw (here, total_first t (omega arith))

    total_order : total n (λ j. h (get_or l j 0)) ≡ total n h
    unfolding masked
    total_order =
        sym (total_first n (omega arith)) ∙ total_same n (masked n) h (λ k m. rw (lt-ltb (place_of l k) n (place_below n l p k m)))

ones : Vector → ℕ → ℕ
ones v i = cond (v i) 1 0

weight_total : (n : ℕ) (v : Vector) → weight n v ≡ total 0 ◌+◌ add-zero add_assoc add_comm n (ones v)
unfolding weight total ones
weight_total zero v = refl
weight_total (suc n) v = ap (λ k. k + cond (v n) 1 0) (weight_total n v)

dot_total : (n : ℕ) (a x : Vector) → dot n a x ≡ total false ◌⊕◌ xor_zero xor_assoc xor_comm n (λ i. a i && x i)
unfolding dot total
dot_total zero a x = refl
dot_total (suc n) a x = ap (λ b. b ⊕ (a n && x n)) (dot_total n a x)

module _ (n : ℕ) (l : List ℕ) (p : Permutation n l) where
  -- PermInv keeps the number of ones
  pub weight_perm_inv : (v : Vector) → weight n (perm_inv l v) ≡ weight n v
  unfolding ones
  weight_perm_inv v =
      weight_total n (perm_inv l v) ∙ (total_order 0 ◌+◌ add-zero add_assoc add_comm n l p (ones v) ∙ sym (weight_total n v))

  -- a product with the columns in the order is the product with Perm of the vector
  pub dot_perm : (a x : Vector) → dot n a (perm l x) ≡ dot n (λ j. a (get_or l j 0)) x
  dot_perm a x =
      dot_total n a (perm l x)
      ∙ (sym (total_order false ◌⊕◌ xor_zero xor_assoc xor_comm n l p (λ i. a i && perm l x i))
      ∙ (total_same false ◌⊕◌ xor_zero xor_assoc xor_comm n _ _ (λ j m. ap (λ k. a (get_or l j 0) && x k) (place_of_lem n l p j m))
      ∙ sym (dot_total n (λ j. a (get_or l j 0)) x)))
