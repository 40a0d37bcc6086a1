-- The columns: inverses of X - a modulo a polynomial.
use Rattle.std.specs.Prelude.{◌≡◌, ℕ, zero, suc, ◌+◌, ◌-◌, ◌<◌, List}
use Rattle.algebra.specs.Field.{Ops, Places}
use Rattle.algebra.specs.Series.{Series, Degree}
use Rattle.polys.specs.Coefs.{coefs}
use Rattle.polys.specs.Euclid.{Inverse}
use Rattle.polys.specs.Values.{value}
use Rattle.goppa.specs.Zeros.{linear, AllPlaces}

abbrev pub power : {A : Type 0} → Ops A → A → ℕ → A
power f x zero = f.one
power f x (suc n) = f.mul x (power f x n)

-- h 0 + h 1 + .. + h (n - 1)
abbrev pub sum_to : {A : Type 0} → Ops A → ℕ → (ℕ → A) → A
sum_to f zero h = f.zero
sum_to f (suc n) h = f.add (h 0) (sum_to f n (λ i. h (suc i)))

-- g_(r+1) + g_(r+2)·a + .. + g_t·a^(t-r-1)
abbrev pub over_coefficient : {A : Type 0} → Ops A → ℕ → Series A → A → ℕ → A
over_coefficient f t g a r = sum_to f (t - r) (λ c. f.mul (g (r + 1 + c)) (power f a c))

-- What a column is: g has the coefficients of a polynomial up to X^t, and q those of the one polynomial below X^t whose product with X - a leaves 1 modulo g.
pub record Column {A : Type 0} {m : ℕ} (f : Ops A) (pl : Places A m) (t : ℕ) (g : List ℕ) (a : A) (q : List ℕ) : Type 0 where
  pub off : value f pl g a ≡ f.zero → ⊥
  pub inverse : Inverse f t (coefs pl g) (linear f a) (coefs pl q)
  pub unique : Degree f t (coefs pl g) → (p : Series A) → Inverse f t (coefs pl g) (linear f a) p → p ≡ coefs pl q
  pub product : (r : ℕ) → r < t → coefs pl q r ≡ f.mul (over_coefficient f t (coefs pl g) a r) (f.inv (value f pl g a))
  pub written : AllPlaces m q
