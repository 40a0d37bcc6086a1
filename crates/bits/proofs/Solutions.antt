-- The solutions of systems of linear equations.
use Rattle.std.proofs.Common.{◌≡◌, ℕ, zero, suc, ◌<◌, Bool, true, eqb, sym, refl, inl, inr}
use Rattle.std.proofs.lemmas.Bool.{cases_Bool, eq-eqb, eqb-true}
use Rattle.bits.specs.Vectors.{◌⊕◌, Vector, Matrix, dot, times, weight}
use Rattle.bits.specs.Kernels.{Same, some_vector}
use Rattle.bits.specs.Solutions.{selects, solution}
use Rattle.bits.proofs.Sums.{xor_self, xor_same, dot_same}
use Rattle.bits.proofs.Decision.{weight_none, none_weight, weight_same, some_same, some_passes}

pub selects_is : (r n : ℕ) (A : Matrix) (v x : Vector) → selects r n A v x ≡ true → (i : ℕ) → i < r → dot n (A i) x ≡ v i
unfolding selects
selects_is r n A v x e i l =
    xor_same (dot n (A i) x) (v i) (none_weight r (λ i. times n A x i ⊕ v i) (eqb-true (weight r (λ i. times n A x i ⊕ v i)) 0 e) i l)

pub is_selects : (r n : ℕ) (A : Matrix) (v x : Vector) → ((i : ℕ) → i < r → dot n (A i) x ≡ v i) → selects r n A v x ≡ true
unfolding selects
is_selects r n A v x h =
    eq-eqb (weight r (λ i. times n A x i ⊕ v i)) 0 (weight_none r (λ i. times n A x i ⊕ v i) (λ i l. rw (h i l) (xor_self (v i))))

-- only the first r rows and n columns count
pub selects_same :
    (r n : ℕ) (A B : Matrix) (v w x y : Vector) → Same r n A B → ((i : ℕ) → i < r → v i ≡ w i) → ((j : ℕ) → j < n → x j ≡ y j)
    → selects r n A v x ≡ selects r n B w y
unfolding selects
selects_same r n A B v w x y s h k =
    rw (weight_same r (λ i. times n A x i ⊕ v i) (λ i. times n B y i ⊕ w i)
    (λ i l. rw (dot_same n (A i) (B i) x y (λ j m. sym (s i j l m)) k, h i l)))

-- a vector that passes is found
pub some_selects : (r n : ℕ) (A : Matrix) (v x : Vector) → selects r n A v x ≡ true → some_vector n (selects r n A v) ≡ true
some_selects r n A v x =
    some_passes n (selects r n A v) x (λ y h. selects_same r n A A v v y x (λ i j l m. refl) (λ i l. refl) h)

-- the solution passes, if any vector does
pub solution_passes : (n : ℕ) (p : Vector → Bool) → some_vector n p ≡ true → p (solution n p) ≡ true
unfolding some_vector solution
solution_passes zero p e = e
solution_passes (suc n) p e =
    elim (cases_Bool (some_vector n p)) [
      | inl t ↦ rw t (solution_passes n p t)
      | inr f ↦ rw f (solution_passes n (λ z. p (λ k. z k ⊕ eqb k n)) (rw f at e))
    ]

-- equal tests have equal solutions
pub solution_same : (n : ℕ) (p q : Vector → Bool) → ((z : Vector) → p z ≡ q z) → (j : ℕ) → solution n p j ≡ solution n q j
unfolding solution
solution_same zero p q h j = refl
solution_same (suc n) p q h j =
    elim (cases_Bool (some_vector n q)) [
      | inl t ↦ rw (some_same n p q h, t) (solution_same n p q h j)
      | inr f ↦
          rw (some_same n p q h, f, solution_same n (λ z. p (λ k. z k ⊕ eqb k n)) (λ z. q (λ k. z k ⊕ eqb k n)) (λ z. h (λ k. z k ⊕ eqb k n)) j)
    ]
