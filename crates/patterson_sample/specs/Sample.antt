-- A code with t = 2 over the field of four elements, and the vector with ones at both points of the support.
use Rattle.std.specs.Prelude.{Bool, true, List, [], ◌∷◌}
use Rattle.patterson_sample.specs.Four.{Four, n0, n1, w1, w2, plus}

-- X² + X, with the zeros 0 and 1
abbrev pub goppa : List Four
goppa = n0 ∷ n1 ∷ n1 ∷ []

abbrev pub zeros : List Four
zeros = n0 ∷ n1 ∷ []

abbrev pub support : List Four
support = w1 ∷ w2 ∷ []

-- the columns are w2 + X and w1 + X: their sum is 1
abbrev pub syndrome : List Four
syndrome = n1 ∷ []

abbrev pub both : List Bool
both = true ∷ true ∷ []

-- three polynomials by their values: 1, X and X + 1
abbrev pub one : Four → Four
one x = n1

abbrev pub itself : Four → Four
itself x = x

abbrev pub next : Four → Four
next x = plus n1 x
