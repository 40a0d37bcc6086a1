-- Euclid's rule on polynomials, the greatest common divisor and the inverse modulo a polynomial.
use Rattle.std.specs.Prelude.{◌≡◌, ℕ, suc, ◌-◌, ◌≤◌}
use Rattle.algebra.specs.Field.{Ops}
use Rattle.algebra.specs.Series.{Series, Below, Degree}
use Rattle.polys.specs.Coefs.{poly}

-- one multiple, below X^n, of r and b was added to s and a
pub record Reduced {A : Type 0} (f : Ops A) (n : ℕ) (s r a b s' a' : Series A) : Type 0 where
  pub multiple : Series A
  pub short : Below f n multiple
  pub reduced : s' ≡ (poly f).add s ((poly f).mul multiple r)
  pub beside : a' ≡ (poly f).add a ((poly f).mul multiple b)

-- What Euclid's rule keeps, from p of degree t and q of a lower one: the last two remainders, s of degree n and r, with the
-- factors a and b of q in them, and the factors c and d of p.
pub record Euclid {A : Type 0} (f : Ops A) (t : ℕ) (p q s r a b : Series A) (n : ℕ) : Type 0 where
  pub c : Series A
  pub d : Series A
  pub s_is : s ≡ (poly f).add ((poly f).mul c p) ((poly f).mul a q)
  pub r_is : r ≡ (poly f).add ((poly f).mul d p) ((poly f).mul b q)
  pub p_is : p ≡ (poly f).add ((poly f).mul b s) ((poly f).mul a r)
  pub q_is : q ≡ (poly f).add ((poly f).mul d s) ((poly f).mul c r)
  pub within : n ≤ t
  pub degree : Degree f n s
  pub under : Below f n r
  pub short_a : Below f (suc (t - n)) a
  pub short_b : Below f (suc (t - n)) b
  pub short_c : Below f (suc (t - n)) c
  pub short_d : Below f (suc (t - n)) d

-- g, monic of degree n, divides p, of degree t, and q, and is a sum of multiples of them
pub record Gcd {A : Type 0} (f : Ops A) (t n : ℕ) (p q g : Series A) : Type 0 where
  pub within : n ≤ t
  pub top : g n ≡ f.one
  pub under : Below f (suc n) g
  pub p_over : Series A
  pub q_over : Series A
  pub p_is : p ≡ (poly f).mul p_over g
  pub q_is : q ≡ (poly f).mul q_over g
  pub p_part : Series A
  pub q_part : Series A
  pub sum : g ≡ (poly f).add ((poly f).mul p_part p) ((poly f).mul q_part q)
  pub short_p_over : Below f (suc (t - n)) p_over
  pub short_q_over : Below f (suc (t - n)) q_over
  pub short_p_part : Below f (suc (t - n)) p_part
  pub short_q_part : Below f (suc (t - n)) q_part

-- b, below X^t, is the inverse of q modulo p
pub record Inverse {A : Type 0} (f : Ops A) (t : ℕ) (p q b : Series A) : Type 0 where
  pub short : Below f t b
  pub other : Series A
  pub short_other : Below f t other
  pub one : (poly f).one ≡ (poly f).add ((poly f).mul other p) ((poly f).mul b q)

-- some polynomial of degree 1 at least divides both
pub record Shared {A : Type 0} (f : Ops A) (p q : Series A) : Type 0 where
  pub n : ℕ
  pub positive : 1 ≤ n
  pub divisor : Series A
  pub degree : Degree f n divisor
  pub p_over : Series A
  pub q_over : Series A
  pub p_is : p ≡ (poly f).mul p_over divisor
  pub q_is : q ≡ (poly f).mul q_over divisor

-- two polynomials have one greatest common divisor
abbrev pub OneGcd : {A : Type 0} → Ops A → Type 0
OneGcd {A} f = (t n n' : ℕ) (p q g g' : Series A) → Gcd f t n p q g → Gcd f t n' p q g' → g ≡ g'

-- a polynomial has one inverse modulo p, of degree t, at most
abbrev pub OneInverse : {A : Type 0} → Ops A → Type 0
OneInverse {A} f = (t : ℕ) (p q b b' : Series A) → Degree f t p → Inverse f t p q b → Inverse f t p q b' → b ≡ b'
