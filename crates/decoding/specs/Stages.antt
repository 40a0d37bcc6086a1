-- What the stages of the decoder leave.
use Rattle.std.specs.Prelude.{◌≡◌, ℕ, ◌+◌, ◌-◌, ◌≤◌, Bool, List}
use Rattle.algebra.specs.Field.{Ops, Places}
use Rattle.algebra.specs.Series.{Degree}
use Rattle.polys.specs.Coefs.{coefs}
use Rattle.polys.specs.Values.{value}
use Rattle.patterson.specs.Points.{In}
use Rattle.patterson.specs.Vectors.{chosen}
use Rattle.patterson.specs.Errors.{ErrorValues}
use Rattle.patterson.specs.Decoder.{Prepared}

-- the common divisors g1 and g2 of g with s and with v, of degrees n1 and n2, and the quotients by them
pub record Ready {A : Type 0} {m : ℕ} (f : Ops A) (pl : Places A m) (t : ℕ) (g s v g1 g2 s1 v2 g12 : List ℕ) (n1 n2 : ℕ) : Type 0 where
  pub prepared : (zs : List A) → ((z : A) → In z zs → value f pl g z ≡ f.zero)
      → Prepared f t (value f pl g) (value f pl s) (value f pl v) zs n1 n2 (value f pl g1) (value f pl g2) (value f pl s1) (value f pl v2) (value f pl g12)
  pub degree_1 : Degree f n1 (coefs pl g1)
  pub degree_2 : Degree f n2 (coefs pl g2)
  pub degree_rest : n1 + n2 ≤ t → Degree f (t - (n1 + n2)) (coefs pl g12)

-- whatever vector of weight t has the syndrome s, l is zero at the points that it chooses, and nowhere else
abbrev pub Locates : {A : Type 0} → Ops A → ℕ → (A → A) → List A → List A → (A → A) → Type 0
Locates {A} f t s zs sup l =
    (e : List Bool) → ErrorValues f t s zs sup e → (x : A) → (l x ≡ f.zero → In x (chosen e sup)) × (In x (chosen e sup) → l x ≡ f.zero)

-- no vector of weight t has the syndrome s
abbrev pub NoErrors : {A : Type 0} → Ops A → ℕ → (A → A) → List A → List A → Type 0
NoErrors f t s zs sup = (e : List Bool) → ErrorValues f t s zs sup e → ⊥
