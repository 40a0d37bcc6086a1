-- The addition of a row to another keeps the kernel.
use Rattle.std.proofs.Common.{◌≡◌, ℕ, ◌<◌, Bool, true, false, sym, refl, ◌∙◌, inl, inr}
use Rattle.std.proofs.lemmas.Bool.{cases_eq}
use Rattle.bits.specs.Vectors.{◌⊕◌, Vector, Matrix, dot}
use Rattle.bits.specs.Kernels.{InKernel, SameKernel, Same}
use Rattle.bits.specs.Elimination.{Added}
use Rattle.bits.proofs.Sums.{dot_left, dot_same}

-- one row of two matrices that have it alike
row_same : (n : ℕ) (a b x : Vector) → ((j : ℕ) → j < n → b j ≡ a j) → dot n a x ≡ dot n b x
row_same n a b x h = dot_same n a b x x (λ j l. sym (h j l)) (λ j l. refl)

pub same_keeps : (r n : ℕ) (A B : Matrix) → Same r n A B → SameKernel r n A B
same_keeps r n A B s x =
    (λ k i l. sym (row_same n (A i) (B i) x (λ j m. s i j l m)) ∙ k i l, λ k i l. row_same n (A i) (B i) x (λ j m. s i j l m) ∙ k i l)

pub keeps_trans : (r n : ℕ) (A B C : Matrix) → SameKernel r n A B → SameKernel r n B C → SameKernel r n A C
keeps_trans r n A B C s t x = (λ k. (t x).0 ((s x).0 k), λ k. (s x).1 ((t x).1 k))

pub keeps_refl : (r n : ℕ) (A : Matrix) → SameKernel r n A A
keeps_refl r n A x = (λ k. k, λ k. k)

added_row : (n : ℕ) (a b c x : Vector) → ((j : ℕ) → j < n → c j ≡ (a j ⊕ b j)) → dot n c x ≡ (dot n a x ⊕ dot n b x)
added_row n a b c x h = dot_same n c (λ j. a j ⊕ b j) x x h (λ j l. refl) ∙ dot_left n a b x

back : (a b c : Bool) → c ≡ (a ⊕ b) → b ≡ false → c ≡ false → a ≡ false
back true true c e f g = f
back true false c e f g = sym e ∙ g
back false b c e f g = refl

pub added_keeps : (r n from into : ℕ) (A B : Matrix) → from < r → into < r → (from ≡ into → ⊥) → Added n from into A B → SameKernel r n A B
added_keeps r n from into A B lf li ne h x = (there, here) where
  there : InKernel r n A x → InKernel r n B x
  there k i l =
      elim (cases_eq i into) [
        | inl e ↦
            let s : dot n (B into) x ≡ false = rw (added_row n (A into) (A from) (B into) x h.1, k into li, k from lf) in
            rw e s
        | inr d ↦ sym (row_same n (A i) (B i) x (λ j m. h.0 i j m d)) ∙ k i l
      ]

  same : (i : ℕ) → i < r → (i ≡ into → ⊥) → InKernel r n B x → dot n (A i) x ≡ false
  same i l d k = row_same n (A i) (B i) x (λ j m. h.0 i j m d) ∙ k i l

  here : InKernel r n B x → InKernel r n A x
  here k i l =
      elim (cases_eq i into) [
        | inl e ↦
            let s : dot n (A into) x ≡ false =
            back (dot n (A into) x) (dot n (A from) x) (dot n (B into) x) (added_row n (A into) (A from) (B into) x h.1)
            (same from lf ne k) (k into li) in
            rw e s
        | inr d ↦ same i l d k
      ]
