-- Horner's rule, and one write into a list of values.
use Rattle.std.proofs.Common.{◌≡◌, ℕ, suc, ◌+◌, ◌-◌, ◌<◌, ◌≤◌, ◌≢◌, List, [], ◌∷◌, map, length, get_or, drop, set, reverse, sym, refl, ap, ◌∙◌, arith, drop-cons, get_or-set_other, get_or-set_same, pow_pos, below_more}
use lib.Seq.{drop-length}
use Rattle.std.specs.List.{fold}
use Rattle.std.proofs.lemmas.List.Sums.{fold_push}
use Rattle.std.proofs.lemmas.Grind.{reverse_onto}
use Rattle.algebra.specs.Field.{Ops, Places}
use Rattle.algebra.specs.Poly.{eval}
use Rattle.polys.specs.Values.{value}

module _ {A : Type 0} (f : Ops A) {m : ℕ} (pl : Places A m) where
  -- Horner's rule at x, through coefficients from the highest on
  abbrev pub horner : A → List ℕ → A
  horner x = fold (λ v c. f.add (pl.at c) (f.mul x v)) f.zero

  pub horner_value : (x : A) (p : List ℕ) → horner x (reverse p) ≡ value f pl p x
  unfolding value
  horner_value x [] = refl
  horner_value x (c ∷ p) =
      ap (horner x) (reverse_onto p c [])
      ∙ fold_push (λ v c. f.add (pl.at c) (f.mul x v)) f.zero (reverse p) c
      ∙ ap (λ v. f.add (pl.at c) (f.mul x v)) (horner_value x p)

  -- past its last coefficient a polynomial has the value zero
  pub value_none : (p : List ℕ) (x : A) → value f pl (drop (length p) p) x ≡ f.zero
  unfolding value
  value_none p x = ap (λ q. eval f (map pl.at q) x) (drop-length p)

  -- one step of Horner's rule: the value from coefficient i - 1 on, by that from i on
  pub value_more : (p : List ℕ) (x : A) (i : ℕ) → 0 < i → i ≤ length p → f.add (pl.at (get_or p (i - 1) 0)) (f.mul x (value f pl (drop i p) x)) ≡ value f pl (drop (i - 1) p) x
  unfolding value
  value_more p x i pos le =
      let lt : i - 1 < length p = omega arith in
      let up : suc (i - 1) ≡ i = omega arith in
      sym (ap (λ q. eval f (map pl.at q) x) (drop-cons p (i - 1) 0 lt) ∙ ap (λ j. f.add (pl.at (get_or p (i - 1) 0)) (f.mul x (eval f (map pl.at (drop j p)) x))) up)

  pub num_zero : pl.at 0 ≡ f.zero → pl.num f.zero ≡ 0
  num_zero z = ap pl.num (sym z) ∙ pl.num_at 0 (pow_pos m)

module _ (a : List ℕ) (i w : ℕ) (within : i < length a) where
  -- what holds at each place below i, and of w at i, holds below i + 1 after the write
  pub below_set : (R : ℕ → ℕ → Type 0) → ((k : ℕ) → k < i → R k (get_or a k 0)) → R i w → (k : ℕ) → k < i + 1 → R k (get_or (set a i w) k 0)
  below_set R low here =
      below_more (λ k. R k (get_or (set a i w) k 0)) i
      (λ k h. let ne : k ≢ i = omega arith in rw get_or-set_other (low k h))
      (rw get_or-set_same here)

  pub above_set : (k : ℕ) → i + 1 ≤ k → get_or (set a i w) k 0 ≡ get_or a k 0
  above_set k h = let ne : k ≢ i = omega arith in rw get_or-set_other
