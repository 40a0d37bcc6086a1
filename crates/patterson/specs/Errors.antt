-- The vectors of weight t with a given syndrome, and what a decoder is to answer.
use Rattle.std.specs.Prelude.{◌≡◌, Bool, List, ℕ, length}
use Rattle.std.proofs.Math.Option.{Option, none, some}
use Rattle.algebra.specs.Field.{Ops}
use Rattle.algebra.specs.Ring.{ring_of}
use Rattle.algebra.specs.Series.{ser}
use Rattle.patterson.specs.Syndrome.{Syndrome}
use Rattle.patterson.specs.Vectors.{chosen, weight}
use Rattle.patterson.specs.Columns.{columns_sum}

-- e is a vector over the support, of weight t, and the columns that it chooses have the sum s
pub record ErrorVector {A : Type 0} (f : Ops A) (g : List A) (t : ℕ) (s sup : List A) (e : List Bool) : Type 0 where
  pub size : length e ≡ length sup
  pub weighs : weight e ≡ t
  pub sums : (j : ℕ) → ser (ring_of f) s j ≡ ser (ring_of f) (columns_sum f g e sup) j

-- the decoder's answer to the syndrome s: the one vector of weight t that has it, or that there is none
abbrev pub Decodes : {A : Type 0} → Ops A → List A → ℕ → List A → List A → Option (List Bool) → Type 0
Decodes f g t s sup (some e) = ErrorVector f g t s sup e × ((d : List Bool) → ErrorVector f g t s sup d → d ≡ e)
Decodes f g t s sup none = (d : List Bool) → ErrorVector f g t s sup d → ⊥

-- the same by the values of s at the zeros of g: e has weight t, and s is the syndrome of the points that it chooses
pub record ErrorValues {A : Type 0} (f : Ops A) (t : ℕ) (s : A → A) (zs sup : List A) (e : List Bool) : Type 0 where
  pub size : length e ≡ length sup
  pub weighs : weight e ≡ t
  pub syndrome : Syndrome f s zs (chosen e sup)

abbrev pub Answers : {A : Type 0} → Ops A → ℕ → (A → A) → List A → List A → Option (List Bool) → Type 0
Answers f t s zs sup (some e) = ErrorValues f t s zs sup e × ((d : List Bool) → ErrorValues f t s zs sup d → d ≡ e)
Answers f t s zs sup none = (d : List Bool) → ErrorValues f t s zs sup d → ⊥
