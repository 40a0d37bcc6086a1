-- What the stages find, by the decoding theorem.
use Rattle.std.proofs.Common.{◌≡◌, ℕ, suc, ◌+◌, ◌-◌, ◌/◌, ◌<◌, ◌≤◌, List, sym, ◌∙◌}
use Rattle.algebra.specs.Field.{Ops}
use Rattle.patterson.specs.Points.{In}
use Rattle.patterson.specs.Polys.{Poly, Splits}
use Rattle.patterson.specs.Code.{Perfect, GoppaCode}
use Rattle.patterson.specs.Euclid.{EuclidState}
use Rattle.patterson.specs.Decoder.{Prepared, RootOf, candidate}
use Rattle.patterson.specs.Vectors.{chosen}
use Rattle.patterson.proofs.Complete.{complete}
use Rattle.patterson.proofs.Theorems.{error_points, rest_zeros, invertible, bounds}
use Rattle.decoding.specs.Stages.{Locates, NoErrors}

module _ {A : Type 0} {f : Ops A} (q : Perfect f) (t : ℕ) (two : 2 ≤ t) (g s w : A → A) (zs sup : List A) (code : GoppaCode f t g zs sup)
    (n1 n2 : ℕ) (g1 g2 s1 v2 g12 : A → A) (h : Prepared f t g s w zs n1 n2 g1 g2 s1 v2 g12) where
  pub none_found : ((n1 < suc t / 2) × (n2 ≤ t / 2) → ⊥) → NoErrors f t s zs sup
  none_found out e he = out (bounds q t two g s w zs sup code n1 n2 g1 g2 s1 v2 g12 h e he)

  pub located : (a b y : A → A) (n : ℕ) (older old_factor l : A → A)
      → ((points : List A) → Splits f (t - (n1 + n2)) g12 points → ((z : A) → In z points → f.mul (g2 z) (s1 z) ≡ f.zero → ⊥)
      → (x : A) → g12 x ≡ f.zero → f.mul (f.mul (y x) (y x)) (f.mul (g2 x) (s1 x)) ≡ f.mul (g1 x) (v2 x))
      → EuclidState f (t - (n1 + n2)) g12 y n older a old_factor b → Poly f (suc (t / 2 - n2)) a → t / 2 < n + n2
      → ((x : A) → l x ≡ candidate f g1 g2 a b x) → Locates f t s zs sup l
  located a b y n older old_factor l root state low high is e he x =
      let rest = rest_zeros q t g s w zs code.splits n1 n2 g1 g2 s1 v2 g12 h in
      let some = invertible q t g s w zs code.splits n1 n2 g1 g2 s1 v2 g12 h in
      let root_of : RootOf f s w zs g1 g2 s1 v2 y = λ z m a b.
      root rest.points rest.splits (λ u i. (some u (rest.within u i) (rest.s_nonzero u i) (rest.v_nonzero u i)).1) z (some z m a b).0 in
      let found =
      complete q.laws q.same t g s w zs code.splits n1 n2 g1 g2 s1 v2 g12 h y root_of n older a old_factor b state low high q.roots
      (chosen e sup) (error_points t s zs sup code.support e he) two x in
      (λ u. found.0 (sym (is x) ∙ u), λ i. is x ∙ found.1 i)
