-- What the decoder computes, by values and bounds on degrees: the divisors of g where s and v are zero, the quotients by them, a square root, and
-- the two polynomials at which Euclid's rule stops.
use Rattle.std.specs.Prelude.{◌≡◌, Bool, true, List, ℕ, suc, ◌+◌, ◌-◌, ◌/◌, ◌<◌}
use Rattle.algebra.specs.Field.{Ops}
use Rattle.patterson.specs.Points.{In}
use Rattle.patterson.specs.Polys.{Poly, Splits}
use Rattle.patterson.specs.Locator.{from_parts}
use Rattle.patterson.specs.Syndrome.{shifted}
use Rattle.patterson.specs.Euclid.{EuclidState, CommonDivisor}

-- v has the values of 1 + X·s at the zeros of g, g1 and g2 are the common divisors of g with s and with v, s1 is s by g1, v2 is v by g2, and g12 is
-- g by g1·g2; each division with its remainder
pub record Prepared {A : Type 0} (f : Ops A) (t : ℕ) (g s v : A → A) (zs : List A) (n1 n2 : ℕ) (g1 g2 s1 v2 g12 : A → A) : Type 0 where
  pub v_is : (z : A) → In z zs → v z ≡ shifted f s z
  pub s_divisor : CommonDivisor f t g s zs n1 g1
  pub v_divisor : CommonDivisor f t g v zs n2 g2
  pub s_rest : A → A
  pub s_rest_poly : Poly f n1 s_rest
  pub s_division : (x : A) → s x ≡ f.add (f.mul (s1 x) (g1 x)) (s_rest x)
  pub v_rest : A → A
  pub v_rest_poly : Poly f n2 v_rest
  pub v_division : (x : A) → v x ≡ f.add (f.mul (v2 x) (g2 x)) (v_rest x)
  pub g_rest : A → A
  pub g_rest_poly : Poly f (n1 + n2) g_rest
  pub g_division : (x : A) → g x ≡ f.add (f.mul (g12 x) (f.mul (g1 x) (g2 x))) (g_rest x)

-- the zeros of g at which neither s nor v is zero are the zeros of g12
pub record RestZeros {A : Type 0} (f : Ops A) (t : ℕ) (s v : A → A) (zs : List A) (n1 n2 : ℕ) (g12 : A → A) : Type 0 where
  pub points : List A
  pub splits : Splits f (t - (n1 + n2)) g12 points
  pub within : (z : A) → In z points → In z zs
  pub s_nonzero : (z : A) → In z points → s z ≡ f.zero → ⊥
  pub v_nonzero : (z : A) → In z points → v z ≡ f.zero → ⊥

-- y² is v2·g1 by s1·g2 at the zeros of g at which neither s nor v is zero
abbrev pub RootOf : {A : Type 0} → Ops A → (A → A) → (A → A) → List A → (g1 g2 s1 v2 y : A → A) → Type 0
RootOf {A} f s v zs g1 g2 s1 v2 y =
    (z : A) → In z zs → (s z ≡ f.zero → ⊥) → (v z ≡ f.zero → ⊥)
    → f.mul (f.mul (y z) (y z)) (f.mul (g2 z) (s1 z)) ≡ f.mul (g1 z) (v2 z)

-- Euclid's rule for g12 and y stops at a, the first remainder of degree at most t/2 - n2; b is its factor
pub record Stopped {A : Type 0} (f : Ops A) (t : ℕ) (s v : A → A) (zs : List A) (n1 n2 : ℕ) (g1 g2 s1 v2 g12 a b : A → A) : Type 0 where
  pub y : A → A
  pub root_of : RootOf f s v zs g1 g2 s1 v2 y
  pub n : ℕ
  pub older : A → A
  pub old_factor : A → A
  pub state : EuclidState f (t - (n1 + n2)) g12 y n older a old_factor b
  pub low : Poly f (suc (t / 2 - n2)) a
  pub high : t / 2 < n + n2

-- the locator that the decoder finds: (a·g2)² + X·(b·g1)²
abbrev pub candidate : {A : Type 0} → Ops A → (g1 g2 a b : A → A) → A → A
candidate f g1 g2 a b = from_parts f (λ u. f.mul (a u) (g2 u)) (λ u. f.mul (b u) (g1 u))

-- in the support, the test m passes at the zeros of l and nowhere else
abbrev pub ZeroTest : {A : Type 0} → Ops A → (A → A) → List A → (A → Bool) → Type 0
ZeroTest {A} f l sup m = ((x : A) → In x sup → m x ≡ true → l x ≡ f.zero) × ((x : A) → In x sup → l x ≡ f.zero → m x ≡ true)
