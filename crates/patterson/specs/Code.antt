-- A Goppa code over a field of characteristic 2: the Goppa polynomial g, its zeros, and the support.
use Rattle.std.specs.Prelude.{◌≡◌, List, ℕ}
use Rattle.algebra.specs.Field.{Ops, Laws, Roots}
use Rattle.patterson.specs.Points.{In, Distinct}
use Rattle.patterson.specs.Polys.{Splits}

-- what the theorem asks of the field: its laws, that elements can be told apart, and square roots
pub record Perfect {A : Type 0} (f : Ops A) : Type 0 where
  pub laws : Laws f
  pub same : (x y : A) → Dec (x ≡ y)
  pub roots : Roots f

-- the support's points differ, and none is a zero of g
pub record Support {A : Type 0} (zs sup : List A) : Type 0 where
  pub differ : Distinct sup
  pub apart : (β : A) → In β zs → In β sup → ⊥

-- g has t different zeros, zs, in the field, and none of them in the support
pub record GoppaCode {A : Type 0} (f : Ops A) (t : ℕ) (g : A → A) (zs sup : List A) : Type 0 where
  pub splits : Splits f t g zs
  pub support : Support zs sup
