-- Polynomials over a field: lists of coefficients, the one of X^0 first.
use Rattle.std.specs.Prelude.{List, [], ◌∷◌}
use Rattle.algebra.specs.Field.{Ops}

abbrev pub sum : {A : Type 0} → Ops A → List A → List A → List A
sum f [] [] = []
sum f [] (y ∷ ys) = y ∷ ys
sum f (x ∷ xs) [] = x ∷ xs
sum f (x ∷ xs) (y ∷ ys) = f.add x y ∷ sum f xs ys

abbrev pub scale : {A : Type 0} → Ops A → A → List A → List A
scale f a [] = []
scale f a (x ∷ xs) = f.mul a x ∷ scale f a xs

abbrev pub product : {A : Type 0} → Ops A → List A → List A → List A
product f [] ys = []
product f (x ∷ xs) ys = sum f (scale f x ys) (f.zero ∷ product f xs ys)

abbrev pub eval : {A : Type 0} → Ops A → List A → A → A
eval f [] v = f.zero
eval f (x ∷ xs) v = f.add x (f.mul v (eval f xs v))
