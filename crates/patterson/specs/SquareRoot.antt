-- The square root of a polynomial, in two parts.
use Rattle.std.specs.Prelude.{List, [], ◌∷◌}
use Rattle.algebra.specs.Field.{Ops, Roots}

-- the square roots of the coefficients at even places, and of those at odd places
abbrev mutual
  pub even_roots : {A : Type 0} {f : Ops A} → Roots f → List A → List A
  even_roots r [] = []
  even_roots r (c ∷ p) = r.root c ∷ odd_roots r p

  pub odd_roots : {A : Type 0} {f : Ops A} → Roots f → List A → List A
  odd_roots r [] = []
  odd_roots r (c ∷ p) = even_roots r p
