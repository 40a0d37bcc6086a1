-- Polynomials over a field whose coefficients stand in a list, as the places of elements, that of X^0 first.
use Rattle.std.specs.Prelude.{◌≡◌, ℕ, zero, suc, ◌^◌, ◌<◌, List, slice_index}
use Rattle.algebra.specs.Field.{Ops, Places}
use Rattle.algebra.specs.Ring.{Ring, ring_of}
use Rattle.algebra.specs.Series.{Series, Below, Degree, series}

-- the ring of the polynomials
unfoldable pub poly : {A : Type 0} → Ops A → Ring (Series A)
poly f = series (ring_of f)

-- the polynomial in a list: a number that is no place counts as zero
unfoldable pub coefs : {A : Type 0} {m : ℕ} → Places A m → List ℕ → Series A
coefs p l i = p.at (slice_index l i)

-- every number in a list is a place
abbrev pub Placed : ℕ → List ℕ → Type 0
Placed m l = (i : ℕ) → slice_index l i < 2 ^ m

-- c·X^k
unfoldable pub mono : {A : Type 0} → Ops A → A → ℕ → Series A
mono f c zero zero = c
mono f c zero (suc n) = f.zero
mono f c (suc k) zero = f.zero
mono f c (suc k) (suc n) = mono f c k n

-- n is the degree of p, and e the inverse of the leading coefficient
pub record Lead {A : Type 0} (f : Ops A) (n : ℕ) (e : A) (p : Series A) : Type 0 where
  pub top : f.mul (p n) e ≡ f.one
  pub under : Below f (suc n) p

-- p = q·d + r, where n is the degree of d, and that of r lies below n
pub record Division {A : Type 0} (f : Ops A) (n : ℕ) (p d q r : Series A) : Type 0 where
  pub degree : Degree f n d
  pub whole : p ≡ (poly f).add ((poly f).mul q d) r
  pub rest : Below f n r

-- a polynomial has one quotient and one remainder
abbrev pub OneDivision : {A : Type 0} → Ops A → Type 0
OneDivision {A} f = (n m : ℕ) (p d q r q' r' : Series A) → Below f m q → Below f m q' → Division f n p d q r → Division f n p d q' r' → (q ≡ q') × (r ≡ r')
