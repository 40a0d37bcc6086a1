-- What Euclid's rule keeps, by values and bounds on degrees.
use Rattle.std.specs.Prelude.{◌≡◌, List, ℕ, suc, ◌-◌, ◌≤◌}
use Rattle.algebra.specs.Field.{Ops}
use Rattle.patterson.specs.Points.{In}
use Rattle.patterson.specs.Polys.{Poly}

-- from p, of degree at most d, and q: the last two remainders, older and newer, the factors of q that give them where p is zero, and
-- n, a bound on the degree of the older one
pub record EuclidState {A : Type 0} (f : Ops A) (d : ℕ) (p q : A → A) (n : ℕ) (older newer old_factor factor : A → A) : Type 0 where
  pub room : n ≤ d
  pub whole : (x : A) → f.add (f.mul (factor x) (older x)) (f.mul (old_factor x) (newer x)) ≡ p x
  pub gives : (x : A) → p x ≡ f.zero → f.mul (factor x) (q x) ≡ newer x
  pub gave : (x : A) → p x ≡ f.zero → f.mul (old_factor x) (q x) ≡ older x
  pub common : (x : A) → older x ≡ f.zero → newer x ≡ f.zero → q x ≡ f.zero
  pub older_poly : Poly f (suc n) older
  pub newer_poly : Poly f n newer
  pub old_factor_poly : Poly f (suc (d - n)) old_factor
  pub factor_poly : Poly f (suc (d - n)) factor

-- the common divisor of g and q, of degree n: it divides g, and among the zeros zs of g it is zero exactly where q is
pub record CommonDivisor {A : Type 0} (f : Ops A) (t : ℕ) (g q : A → A) (zs : List A) (n : ℕ) (divisor : A → A) : Type 0 where
  pub room : n ≤ t
  pub poly : Poly f (suc n) divisor
  pub other : A → A
  pub other_poly : Poly f (suc (t - n)) other
  pub parts : (x : A) → f.mul (other x) (divisor x) ≡ g x
  pub zero_there : (z : A) → In z zs → divisor z ≡ f.zero → q z ≡ f.zero
  pub zero_here : (z : A) → In z zs → q z ≡ f.zero → divisor z ≡ f.zero
