-- Vectors of bits over a support: the points that a vector chooses.
use Rattle.std.specs.Prelude.{Bool, true, false, List, [], ◌∷◌, ℕ, zero, suc}

-- the points of the support at the places of the ones
abbrev pub chosen : {A : Type 0} → List Bool → List A → List A
chosen [] sup = []
chosen (b ∷ e) [] = []
chosen (true ∷ e) (α ∷ sup) = α ∷ chosen e sup
chosen (false ∷ e) (α ∷ sup) = chosen e sup

-- the number of ones
abbrev pub weight : List Bool → ℕ
weight [] = zero
weight (true ∷ e) = suc (weight e)
weight (false ∷ e) = weight e

-- the vector of the points that pass a test
abbrev pub marks : {A : Type 0} → (A → Bool) → List A → List Bool
marks m [] = []
marks m (α ∷ sup) = m α ∷ marks m sup
