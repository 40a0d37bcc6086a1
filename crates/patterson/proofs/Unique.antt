-- A syndrome has at most one set of t points.
use mathlib.Core.Path.{◌≡◌, ◌∙◌}
use mathlib.Core.List.{List}
use Prim.Native.Nat.{ℕ}
use lib.ListN.{length}
use Rattle.algebra.specs.Field.{Ops, Laws, Roots}
use Rattle.patterson.specs.Points.{In, Distinct}
use Rattle.patterson.specs.Syndrome.{ErrorPoints}
use Rattle.patterson.proofs.Locators.{locator_zero}
use Rattle.patterson.proofs.Split.{even_part, odd_part, split_locator, odd_part_nonzero}
use Rattle.patterson.proofs.KeyEquation.{key_equation}
use Rattle.patterson.proofs.Recovery.{own_even, own_odd, zero_only_at_points}

module _ {A : Type 0} {f : Ops A} (k : Laws f) (dec : (x y : A) → Dec (x ≡ y)) (r : Roots f)
    (t : ℕ) (s : A → A) (zs : List A) (zs-differ : Distinct zs) (zs-count : length zs ≡ t) where
  -- the points of one set are among those of any other with the same syndrome
  pub unique : (es ds : List A) → ErrorPoints f t s zs es → ErrorPoints f t s zs ds → (x : A) → In x ds → In x es
  unique es ds e d x m =
      zero_only_at_points k dec r t s zs es zs-differ zs-count e (even_part r ds) (odd_part r ds)
      (own_even k dec r t s zs ds zs-differ zs-count d) (own_odd k dec r t s zs ds zs-differ zs-count d)
      (key_equation k r s zs ds d.syndrome d.apart) (λ n. odd_part_nonzero k r ds d.differ x m (n x)) x
      (split_locator k r ds x ∙ locator_zero k ds x m)
