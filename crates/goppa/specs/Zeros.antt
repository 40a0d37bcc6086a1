-- Monic polynomials from their zeros.
use Rattle.std.specs.Prelude.{◌≡◌, ℕ, suc, ◌^◌, ◌<◌, List, [], ◌∷◌, length, slice_index}
use Rattle.algebra.specs.Field.{Ops, Places}
use Rattle.algebra.specs.Series.{Series, Below}
use Rattle.polys.specs.Coefs.{poly, mono}

-- X - a, which is X + a
unfoldable pub linear : {A : Type 0} → Ops A → A → Series A
linear f a = (poly f).add (mono f f.one 1) (mono f a 0)

-- the product of the X - b
unfoldable pub from_zeros : {A : Type 0} → Ops A → List A → Series A
from_zeros f [] = (poly f).one
from_zeros f (b ∷ bs) = (poly f).mul (linear f b) (from_zeros f bs)

-- the product of the x - b
abbrev pub differences : {A : Type 0} → Ops A → List A → A → A
differences f [] x = f.one
differences f (b ∷ bs) x = f.mul (f.add x b) (differences f bs x)

-- n is the degree of p, and the coefficient there is one
pub record Monic {A : Type 0} (f : Ops A) (n : ℕ) (p : Series A) : Type 0 where
  pub top : p n ≡ f.one
  pub under : Below f (suc n) p

-- v is zero at the elements whose places a list has, and nowhere else
pub record Zeros {A : Type 0} {m : ℕ} (f : Ops A) (pl : Places A m) (v : A → A) (zs : List ℕ) : Type 0 where
  pub each : (j : ℕ) → j < length zs → v (pl.at (slice_index zs j)) ≡ f.zero
  pub only : (x : A) → v x ≡ f.zero → (j : ℕ) × (j < length zs) × (x ≡ pl.at (slice_index zs j))

-- every number is the place of an element
abbrev pub AllPlaces : ℕ → List ℕ → Type 0
AllPlaces m l = (j : ℕ) → slice_index l j < 2 ^ m
