-- The syndrome of a set of points, and the equation that finds their locator, both by values at the zeros of the Goppa polynomial.
use Rattle.std.specs.Prelude.{◌≡◌, List, ℕ, suc, ◌/◌, length}
use Rattle.algebra.specs.Field.{Ops}
use Rattle.patterson.specs.Points.{In, Distinct}
use Rattle.patterson.specs.Polys.{Poly}
use Rattle.patterson.specs.Locator.{locator, inverse_sum, from_parts}

-- s has, at each of the zeros zs, the sum of the inverses of β + α over the points α
abbrev pub Syndrome : {A : Type 0} → Ops A → (A → A) → List A → List A → Type 0
Syndrome {A} f s zs es = (β : A) → In β zs → s β ≡ inverse_sum f es β

-- the points of t errors: es are t different points, none of them among the zeros zs, and s is their syndrome
pub record ErrorPoints {A : Type 0} (f : Ops A) (t : ℕ) (s : A → A) (zs es : List A) : Type 0 where
  pub differ : Distinct es
  pub count : length es ≡ t
  pub apart : (β : A) → In β zs → In β es → ⊥
  pub syndrome : Syndrome f s zs es

-- v = 1 + X·s
abbrev pub shifted : {A : Type 0} → Ops A → (A → A) → A → A
shifted f s x = f.add f.one (f.mul x (s x))

-- the key equation: a²·s = b²·v at each of the zeros zs
abbrev pub KeyEquation : {A : Type 0} → Ops A → (A → A) → List A → (A → A) → (A → A) → Type 0
KeyEquation {A} f s zs a b = (β : A) → In β zs → f.mul (f.mul (a β) (a β)) (s β) ≡ f.mul (f.mul (b β) (b β)) (shifted f s β)

-- a and b are the two parts of the points' locator, within their bounds, and solve the key equation
pub record KeySolution {A : Type 0} (f : Ops A) (t : ℕ) (s : A → A) (zs es : List A) : Type 0 where
  pub a : A → A
  pub b : A → A
  pub a_poly : Poly f (suc (t / 2)) a
  pub b_poly : Poly f (suc t / 2) b
  pub parts : (x : A) → from_parts f a b x ≡ locator f es x
  pub solves : KeyEquation f s zs a b
