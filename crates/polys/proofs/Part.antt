-- A polynomial after a change of its coefficients from X^s on.
use Rattle.std.proofs.Common.{◌≡◌, ℕ, ◌+◌, ◌-◌, ◌<◌, ◌≤◌, List, length, get_or, take, drop, sym, refl, ap, ◌∙◌, ap₂, arith, length-drop, length-take-le, get_or-drop, get_or-take}
use mathlib.Core.Path.{fun_ext}
use native.Mathlib.Decide.{dec_lt}
use borrow.Rule.Slice.PartMut.{put_mid}
use lib.ListN.{get_or-append}
use Rattle.std.proofs.lemmas.List.{get_or_past, get_or-append_right, take_rest}
use Rattle.algebra.specs.Field.{Ops, Laws, Places}
use Rattle.algebra.specs.Series.{Series}
use Rattle.polys.specs.Coefs.{poly, coefs, mono}
use Rattle.polys.proofs.Terms.{at_add, mono_high, mono_low}
use Rattle.polys.proofs.Lists.{coefs_at}

-- what stands in the whole: below s the old, from s on the new
pub low_part : (xs ys : List ℕ) (s j : ℕ) → j < s → s ≤ length xs → get_or (put_mid s (length xs - s) xs ys) j 0 ≡ get_or xs j 0
low_part xs ys s j h l =
    get_or-append (take s xs) _ 0 j (omega (arith, length-take-le s xs l)) ∙ get_or-take s xs j 0 h

pub high_part : (xs ys : List ℕ) (s j : ℕ) → s ≤ j → s ≤ length xs → length ys ≡ length xs - s → get_or (put_mid s (length xs - s) xs ys) j 0 ≡ get_or ys (j - s) 0
high_part xs ys s j h l e =
    get_or-append_right (take s xs) _ s j 0 (length-take-le s xs l) h
    ∙ elim (dec_lt (j - s) (length ys)) [
      | yes w ↦ get_or-append ys _ 0 (j - s) w
      | no w ↦
          get_or-append_right ys _ (length ys) (j - s) 0 refl (omega arith)
          ∙ get_or_past (drop (length xs - s) (drop s xs)) (j - s - length ys) 0 (omega (arith, length-drop (length xs - s) (drop s xs), length-drop s xs))
          ∙ sym (get_or_past ys (j - s) 0 (omega arith))
    ]

module _ {A : Type 0} {f : Ops A} (k : Laws f) {m : ℕ} (pl : Places A m) where
  pub part_write : (xs ys : List ℕ) (p : Series A) (c : A) (s : ℕ) → s ≤ length xs → length ys ≡ length xs - s
      → coefs pl ys ≡ (poly f).add (coefs pl (take (length xs - s) (drop s xs))) ((poly f).mul (mono f c 0) p)
      → coefs pl (put_mid s (length xs - s) xs ys) ≡ (poly f).add (coefs pl xs) ((poly f).mul (mono f c s) p)
  part_write xs ys p c s l e h = fun_ext (λ j. coefs_at k pl (put_mid s (length xs - s) xs ys) j ∙ elim (dec_lt j s) [
    | yes b ↦
        ap pl.at (low_part xs ys s j b l)
        ∙ sym (at_add k (coefs pl xs) ((poly f).mul (mono f c s) p) j ∙ ap₂ f.add (coefs_at k pl xs j) (mono_low k c s p j b) ∙ k.add_zero (pl.at (get_or xs j 0)))
    | no b ↦
        let back : s + (j - s) ≡ j = omega arith in
        ap pl.at (high_part xs ys s j (omega arith) l e) ∙ sym (coefs_at k pl ys (j - s)) ∙ ap (λ (q : Series A). q (j - s)) h
        ∙ at_add k (coefs pl (take (length xs - s) (drop s xs))) ((poly f).mul (mono f c 0) p) (j - s)
        ∙ ap₂ f.add
        (coefs_at k pl (take (length xs - s) (drop s xs)) (j - s) ∙ ap (λ l. pl.at (get_or l (j - s) 0)) (take_rest xs s) ∙ ap pl.at (get_or-drop s xs (j - s) 0 ∙ ap (λ i. get_or xs i 0) back) ∙ sym (coefs_at k pl xs j))
        (mono_high k c 0 p (j - s) (j - s) (omega arith) ∙ sym (mono_high k c s p (j - s) j (omega arith)))
        ∙ sym (at_add k (coefs pl xs) ((poly f).mul (mono f c s) p) j)
  ])
