-- The vector of the zeros of a locator is the only one that can be an error vector.
use Rattle.std.proofs.Common.{◌≡◌, ℕ, zero, suc, ◌+◌, ◌*◌, ◌<◌, ◌≤◌, Bool, true, cond, eqb, List, map, length, get_or, sym, refl, ap, ◌∙◌, ap₂, arith}
use lib.Bits.{bit_xor}
use Rattle.std.proofs.lemmas.List.{length-map}
use Rattle.std.proofs.lemmas.Bool.{eq-eqb, eqb-true}
use Rattle.algebra.specs.Field.{Ops, Places}
use Rattle.polys.specs.Coefs.{Placed}
use Rattle.polys.specs.Values.{value}
use Rattle.polys.proofs.Bridge.{front}
use Rattle.polys.proofs.Points.{num_zero}
use Rattle.bits.specs.Vectors.{Vector, weight}
use Rattle.bits.proofs.Sums.{dot_same}
use Rattle.matrices.specs.Columns.{bits_of}
use Rattle.patterson.specs.Code.{Perfect}
use Rattle.patterson.specs.Errors.{ErrorValues}
use Rattle.patterson.proofs.Vectors.{marked}
use Rattle.patterson.proofs.Theorems.{values_of}
use Rattle.decoding.specs.Stages.{Locates, NoErrors}
use Rattle.decoder.specs.Codes.{CodeOf}
use Rattle.decoder.specs.Errors.{check_matrix, ErrorOf, OnlyError, NoError}
use Rattle.decoder.proofs.Lists.{goppa_code}
use Rattle.decoder.proofs.Vectors.{front_same, marks_front}
use Rattle.decoder.proofs.Bridge.{to_vector}

-- only the bits below n count
weight_same : (n : ℕ) (d e : Vector) → ((j : ℕ) → j < n → d j ≡ e j) → weight n d ≡ weight n e
unfolding weight
weight_same zero d e h = refl
weight_same (suc n) d e h = ap₂ (λ (w : ℕ) (b : Bool). w + cond b 1 0) (weight_same n d e (λ j l. h j (omega arith))) (h n (omega arith))

module _ {A : Type 0} {f : Ops A} (q : Perfect f) {m : ℕ} (pl : Places A m) (z : pl.at 0 ≡ f.zero)
    (sums : (x y : A) → pl.num (f.add x y) ≡ bit_xor (pl.num x) (pl.num y)) (t : ℕ) (g support zeros s : List ℕ) (syndrome : Vector)
    (long : length g ≡ t + 1) (short : length s ≡ t) (some : 1 ≤ length support) (pos : 0 < m) (placed : Placed m s)
    (reads : (i : ℕ) → i < m * t → bits_of m s i ≡ syndrome i) (code : CodeOf f pl t g support zeros) where
  pub by_values : (d : Vector) → ErrorOf f pl t g support syndrome d → ErrorValues f t (value f pl s) (map pl.at zeros) (map pl.at support) (front (length support) d)
  unfolding value
  by_values d h =
      values_of q t (map pl.at g) (map pl.at s) (map pl.at zeros) (map pl.at support) (goppa_code f pl t g support zeros some code)
      (omega (arith, length-map g pl.at)) (omega (arith, length-map s pl.at)) (front (length support) d)
      (to_vector q.laws pl z sums t g support s syndrome pos placed reads long short d h)

  pub none_left : NoErrors f t (value f pl s) (map pl.at zeros) (map pl.at support) → NoError f pl t g support syndrome
  none_left h d e = h (front (length support) d) (by_values d e)

  module _ (l : A → A) (finds : Locates f t (value f pl s) (map pl.at zeros) (map pl.at support) l) (e : Vector)
      (marks : (j : ℕ) → j < length support → e j ≡ eqb (pl.num (l (pl.at (get_or support j 0)))) 0) where
    is_zero : (x : A) → eqb (pl.num (l x)) 0 ≡ true → l x ≡ f.zero
    is_zero x h = sym (pl.at_num (l x)) ∙ ap pl.at (eqb-true (pl.num (l x)) 0 h) ∙ z

    pub agree : (d : Vector) → ErrorOf f pl t g support syndrome d → (j : ℕ) → j < length support → d j ≡ e j
    agree d h =
        let w = by_values d h in
        let test : A → Bool = λ x. eqb (pl.num (l x)) 0 in
        let found = finds (front (length support) d) w in
        let c = goppa_code f pl t g support zeros some code in
        front_same (length support) d e
        (sym (marked test (front (length support) d) (map pl.at support) c.support.differ w.size
        (λ x i b. (found x).0 (is_zero x b)) (λ x i. eq-eqb (pl.num (l x)) 0 (ap pl.num ((found x).1 i) ∙ num_zero f pl z)))
        ∙ marks_front test pl.at support e marks)

    pub accepted : ErrorOf f pl t g support syndrome e → OnlyError f pl t g support syndrome e
    accepted h = record { error = h; only = agree }

    pub refused : (ErrorOf f pl t g support syndrome e → ⊥) → NoError f pl t g support syndrome
    refused out d h =
        let same = agree d h in
        out record {
          weighs = weight_same (length support) e d (λ j l. sym (same j l)) ∙ h.weighs;
          sums = λ i l.
              dot_same (length support) (check_matrix f pl t g support i) (check_matrix f pl t g support i) e d (λ j b. refl) (λ j b. sym (same j b)) ∙ h.sums i l;
        }
