-- Lists in which every number is a place.
use Rattle.std.proofs.Common.{◌≡◌, ℕ, ◌-◌, ◌^◌, ◌<◌, ◌≤◌, List, length, get_or, take, drop, set, replicate, sym, ap, ◌∙◌, subst, inl, inr, arith, get_or-drop, get_or-set_other, get_or-set_same, pow_pos}
use native.Mathlib.Decide.{dec_lt}
use borrow.Rule.Slice.PartMut.{put_mid}
use Rattle.std.proofs.lemmas.List.{get_or_past, take_rest}
use Rattle.std.proofs.lemmas.Bool.{cases_eq}
use Rattle.algebra.specs.Field.{Places}
use Rattle.polys.specs.Coefs.{Placed}
use Rattle.polys.proofs.Lists.{get_d_zeros}
use Rattle.polys.proofs.Part.{low_part, high_part}

module _ (m : ℕ) where
  equal : (a b : ℕ) → a ≡ b → b < 2 ^ m → a < 2 ^ m
  equal a b e h = subst (λ (n : ℕ). n < 2 ^ m) (sym e) h

  pub placed_zeros : (n : ℕ) (l : List ℕ) → l ≡ replicate n 0 → Placed m l
  placed_zeros n l e i = equal (get_or l i 0) 0 (ap (λ l. get_or l i 0) e ∙ get_d_zeros n i) (pow_pos m)

  pub placed_set : (l : List ℕ) (i w : ℕ) → i < length l → Placed m l → w < 2 ^ m → Placed m (set l i w)
  placed_set l i w within h small j =
      elim (cases_eq j i) [
        | inl e ↦ equal (get_or (set l i w) j 0) w (ap (λ n. get_or (set l i w) n 0) e ∙ get_or-set_same l i w 0 within) small
        | inr d ↦ equal (get_or (set l i w) j 0) (get_or l j 0) (get_or-set_other l i j w 0 d) (h j)
      ]

  pub placed_rest : (xs : List ℕ) (s : ℕ) → Placed m xs → Placed m (take (length xs - s) (drop s xs))
  placed_rest xs s h j = equal _ _ (ap (λ l. get_or l j 0) (take_rest xs s) ∙ get_or-drop s xs j 0) (h _)

  pub placed_part : (xs ys : List ℕ) (s : ℕ) → s ≤ length xs → length ys ≡ length xs - s → Placed m xs → Placed m ys → Placed m (put_mid s (length xs - s) xs ys)
  placed_part xs ys s l e h k j =
      elim (dec_lt j s) [
        | yes b ↦ equal _ _ (low_part xs ys s j b l) (h j)
        | no b ↦ equal _ _ (high_part xs ys s j (omega arith) l e) (k (j - s))
      ]

  -- every number below the length is a place
  pub placed_all : (l : List ℕ) → ((j : ℕ) → j < length l → get_or l j 0 < 2 ^ m) → Placed m l
  placed_all l h j =
      elim (dec_lt j (length l)) [
        | yes b ↦ h j b
        | no b ↦ equal (get_or l j 0) 0 (get_or_past l j 0 (omega arith)) (pow_pos m)
      ]

-- the number of an element
pub number_below : {A : Type 0} {m : ℕ} (pl : Places A m) (w : ℕ) (x : A) → w ≡ pl.num x → w < 2 ^ m
number_below {m = m} pl w x e = subst (λ (n : ℕ). n < 2 ^ m) (sym e) (pl.num_below x)
