-- The value of a polynomial that stands in a list.
use Rattle.std.specs.Prelude.{◌≡◌, ℕ, List, map}
use Rattle.algebra.specs.Field.{Ops, Places}
use Rattle.algebra.specs.Poly.{eval}

-- the value at x of the polynomial in a list
unfoldable pub value : {A : Type 0} {m : ℕ} → Ops A → Places A m → List ℕ → A → A
value f pl p x = eval f (map pl.at p) x

-- What Euclid's rule says at each point x, of polynomials by their values: `p` and `q` are those that it began with.
pub record AtPoints {A : Type 0} (f : Ops A) (p q s r a b : A → A) : Type 0 where
  pub whole : (x : A) → p x ≡ f.add (f.mul (b x) (s x)) (f.mul (a x) (r x))
  pub first : (x : A) → p x ≡ f.zero → s x ≡ f.mul (a x) (q x)
  pub second : (x : A) → p x ≡ f.zero → r x ≡ f.mul (b x) (q x)
  pub common : (x : A) → s x ≡ f.zero → r x ≡ f.zero → (p x ≡ f.zero) × (q x ≡ f.zero)
  pub kept : (x : A) → p x ≡ f.zero → q x ≡ f.zero → (s x ≡ f.zero) × (r x ≡ f.zero)
