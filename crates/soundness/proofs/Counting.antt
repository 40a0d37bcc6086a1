-- The number of ones, in parts, and what stands among numbers.
use Rattle.std.proofs.Common.{◌≡◌, ℕ, zero, suc, ◌+◌, ◌<◌, ◌≤◌, Bool, true, false, cond, ◌||◌, eqb, List, [], ◌∷◌, ◌++◌, length, get_or, take, sym, refl, ap, ◌∙◌, inl, inr, add-zero, add-suc, add-one, arith}
use mir.Val.{bool_byte}
use Rattle.std.proofs.lemmas.List.{take_more}
use Rattle.std.proofs.lemmas.Bool.{cases_Bool, cases_eq, eq-eqb, ne_eqb}
use Rattle.bits.specs.Vectors.{Vector, weight}
use Rattle.shuffles.specs.Orders.{among}

pub weight_le : (n : ℕ) (v : Vector) → weight n v ≤ n
unfolding weight
weight_le zero v = omega arith
weight_le (suc n) v =
    let l = weight_le n v in
    elim (cases_Bool (v n)) [ inl t ↦ rw t (omega arith) | inr f ↦ rw f (omega arith) ]

-- the ones before place a, and those from there on
pub weight_split : (a b : ℕ) (v : Vector) → weight (a + b) v ≡ weight a v + weight b (λ i. v (a + i))
unfolding weight
weight_split a zero v = rw (add-zero a) (omega arith)
weight_split a (suc b) v = rw (add-suc a b) (omega (arith, weight_split a b v))

-- one more place
pub weight_next : (n : ℕ) (v : Vector) → weight (n + 1) v ≡ weight n v + bool_byte (v n)
unfolding weight
weight_next n v = rw (add-one n) (ap (λ k. weight n v + k) (ones (v n))) where
  ones : (b : Bool) → cond b 1 0 ≡ bool_byte b
  ones true = refl
  ones false = refl

-- no places
pub weight_start : (v : Vector) → weight 0 v ≡ 0
unfolding weight
weight_start v = refl

eqb_sym : (a b : ℕ) → eqb a b ≡ eqb b a
eqb_sym a b =
    elim (cases_eq a b) [ inl e ↦ eq-eqb a b e ∙ sym (eq-eqb b a (sym e)) | inr d ↦ ne_eqb a b d ∙ sym (ne_eqb b a (λ e. d (sym e))) ]

among_push : (l : List ℕ) (y x : ℕ) → among (l ++ y ∷ []) x ≡ (among l x || eqb x y)
unfolding among
among_push [] y x = last (eqb x y) where
  last : (b : Bool) → (b || false) ≡ b
  last true = refl
  last false = refl
among_push (z ∷ l) y x = ap (λ b. eqb x z || b) (among_push l y x) ∙ sym (three (eqb x z) (among l x) (eqb x y)) where
  three : (a b c : Bool) → ((a || b) || c) ≡ (a || (b || c))
  three true b c = refl
  three false b c = refl

-- one more number
pub among_more : (xs : List ℕ) (i x : ℕ) → i < length xs → among (take (i + 1) xs) x ≡ (among (take i xs) x || eqb (get_or xs i 0) x)
among_more xs i x l =
    rw (take_more xs i 0 l)
    (among_push (take i xs) (get_or xs i 0) x ∙ ap (λ b. among (take i xs) x || b) (eqb_sym x (get_or xs i 0)))

pub among_none : (x : ℕ) → among [] x ≡ false
unfolding among
among_none x = refl
