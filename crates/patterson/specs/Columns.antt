-- The columns of the check matrix, and the sum of those that a vector chooses.
use Rattle.std.specs.Prelude.{Bool, true, false, List, [], ◌∷◌}
use Rattle.algebra.specs.Field.{Ops}
use Rattle.algebra.specs.Poly.{sum, scale, eval}

-- the quotient by X + α of any polynomial with these coefficients after its first one
abbrev pub quotient_at : {A : Type 0} → Ops A → A → List A → List A
quotient_at f α [] = []
quotient_at f α (c ∷ p) = eval f (c ∷ p) α ∷ quotient_at f α p

-- the inverse of X + α modulo g: g's quotient by X + α, by g's value at α
abbrev pub column : {A : Type 0} → Ops A → List A → A → List A
column f [] α = []
column f (c ∷ p) α = scale f (f.inv (eval f (c ∷ p) α)) (quotient_at f α p)

-- the sum of the columns of the points that a vector chooses
abbrev pub columns_sum : {A : Type 0} → Ops A → List A → List Bool → List A → List A
columns_sum f g [] sup = []
columns_sum f g (b ∷ e) [] = []
columns_sum f g (true ∷ e) (α ∷ sup) = sum f (column f g α) (columns_sum f g e sup)
columns_sum f g (false ∷ e) (α ∷ sup) = columns_sum f g e sup
