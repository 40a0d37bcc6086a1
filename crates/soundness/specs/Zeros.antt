-- The zeros of a polynomial in the field, by their places.
use Rattle.std.specs.Prelude.{ℕ, zero, suc, ◌^◌, Bool, cond, List, [], ◌∷◌}
use Rattle.algebra.specs.Field.{Ops, Places}
use Rattle.keys.specs.Sound.{zero_at}

-- the numbers below n that pass a test, the greatest first
unfoldable pub passing : ℕ → (ℕ → Bool) → List ℕ
passing zero p = []
passing (suc n) p = cond (p n) (n ∷ passing n p) (passing n p)

abbrev pub zero_places : {A : Type 0} {m : ℕ} → Ops A → Places A m → List ℕ → List ℕ
zero_places {m = m} f pl g = passing (2 ^ m) (zero_at f pl g)
