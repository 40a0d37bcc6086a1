-- The locator of a set of points, the polynomial whose zeros they are, and its two parts.
use Rattle.std.specs.Prelude.{List, [], ◌∷◌}
use Rattle.algebra.specs.Field.{Ops}

-- the locator: the product of x + α over the points α
abbrev pub locator : {A : Type 0} → Ops A → List A → A → A
locator f [] x = f.one
locator f (α ∷ es) x = f.mul (f.add x α) (locator f es x)

-- the sum of the inverses of x + α over the points α
abbrev pub inverse_sum : {A : Type 0} → Ops A → List A → A → A
inverse_sum f [] x = f.zero
inverse_sum f (α ∷ es) x = f.add (f.inv (f.add x α)) (inverse_sum f es x)

-- the polynomial whose parts of even and of odd degree are a² and X·b²
abbrev pub from_parts : {A : Type 0} → Ops A → (A → A) → (A → A) → A → A
from_parts f a b x = f.add (f.mul (a x) (a x)) (f.mul x (f.mul (b x) (b x)))
