-- Polynomials by their values, with a bound on the degree.
use Rattle.std.specs.Prelude.{◌≡◌, List, ℕ, ◌≤◌, length}
use Rattle.algebra.specs.Field.{Ops}
use Rattle.algebra.specs.Poly.{eval}
use Rattle.patterson.specs.Points.{In, Distinct}

-- d coefficients have these values: a polynomial of degree below d
pub record Poly {A : Type 0} (f : Ops A) (d : ℕ) (φ : A → A) : Type 0 where
  pub coefs : List A
  pub short : length coefs ≤ d
  pub value : (x : A) → φ x ≡ eval f coefs x

-- the function is zero everywhere
abbrev pub Vanishes : {A : Type 0} → Ops A → (A → A) → Type 0
Vanishes {A} f φ = (x : A) → φ x ≡ f.zero

-- zs are d different zeros of p, which is not zero everywhere
pub record Splits {A : Type 0} (f : Ops A) (d : ℕ) (p : A → A) (zs : List A) : Type 0 where
  pub differ : Distinct zs
  pub count : length zs ≡ d
  pub zeros : (z : A) → In z zs → p z ≡ f.zero
  pub some : Vanishes f p → ⊥
