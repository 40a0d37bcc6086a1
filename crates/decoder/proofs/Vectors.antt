-- Vectors as lists of bits.
use Rattle.std.proofs.Common.{◌≡◌, ℕ, zero, suc, ◌+◌, ◌<◌, Bool, true, false, cond, List, [], ◌∷◌, map, length, get_or, sym, refl, ap, ◌∙◌, ap₂, add-one, arith}
use Rattle.algebra.specs.Series.{tail}
use Rattle.polys.proofs.Bridge.{front}
use Rattle.bits.specs.Vectors.{Vector, weight}
use Rattle.patterson.specs.Vectors as lists

pub length_front : {A : Type 0} (n : ℕ) (e : ℕ → A) → length (front n e) ≡ n
length_front zero e = refl
length_front (suc n) e = ap suc (length_front n (tail e))

pub front_same : {A : Type 0} (n : ℕ) (d e : ℕ → A) → front n d ≡ front n e → (j : ℕ) → j < n → d j ≡ e j
front_same zero d e h j l = absurd (omega arith)
front_same (suc n) d e h zero l = cc
front_same (suc n) d e h (suc j) l = let t : front n (tail d) ≡ front n (tail e) = cc in front_same n (tail d) (tail e) t j (omega arith)

-- the first bit apart
weight_first : (n : ℕ) (e : Vector) → weight (suc n) e ≡ cond (e 0) 1 0 + weight n (tail e)
unfolding weight
weight_first zero e = omega arith
weight_first (suc n) e = ap (λ w. w + cond (e (suc n)) 1 0) (weight_first n e) ∙ omega arith

pub weight_front : (n : ℕ) (e : Vector) → lists.weight (front n e) ≡ weight n e
unfolding weight
weight_front zero e = refl
weight_front (suc n) e = first (e 0) (weight_front n (tail e)) ∙ sym (weight_first n e) where
  first : (b : Bool) → lists.weight (front n (tail e)) ≡ weight n (tail e) → lists.weight (b ∷ front n (tail e)) ≡ cond b 1 0 + weight n (tail e)
  first true rest = omega arith
  first false rest = omega arith

-- a vector of tests of the points of a list
pub marks_front : {A : Type 0} (test : A → Bool) (h : ℕ → A) (l : List ℕ) (e : Vector) → ((j : ℕ) → j < length l → e j ≡ test (h (get_or l j 0))) → lists.marks test (map h l) ≡ front (length l) e
marks_front test h [] e same = refl
marks_front test h (x ∷ l) e same =
    ap₂ (λ (b : Bool) (r : List Bool). b ∷ r) (sym (same 0 (omega arith))) (marks_front test h l (tail e) (λ j le. same (suc j) (omega arith)))

pub weight_more : (n : ℕ) (v : Vector) → weight (n + 1) v ≡ weight n v + cond (v n) 1 0
unfolding weight
weight_more n v = ap (λ k. weight k v) (add-one n)
