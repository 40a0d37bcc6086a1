-- The sum of the columns of the check matrix that a vector selects, as elements.
use Rattle.std.specs.Prelude.{ℕ, zero, suc, cond, List, slice_index}
use Rattle.algebra.specs.Field.{Ops, Places}
use Rattle.bits.specs.Vectors.{Vector}
use Rattle.goppa.specs.Matrix.{column_place}

-- the sum of h j over the ones j of e below n
unfoldable pub selected : {A : Type 0} → Ops A → ℕ → (ℕ → A) → Vector → A
selected f zero h e = f.zero
selected f (suc n) h e = f.add (selected f n h e) (cond (e n) (h n) f.zero)

-- coefficient r of the sum of the first n columns that e selects
unfoldable pub column_sum : {A : Type 0} {m : ℕ} → Ops A → Places A m → ℕ → List ℕ → List ℕ → ℕ → Vector → ℕ → A
column_sum f pl t g support n e r = selected f n (λ j. pl.at (column_place f pl t g (slice_index support j) r)) e
