-- Elements that are numbered can be told apart.
use mathlib.Core.Path.{◌≡◌, sym, ap, ◌∙◌}
use Prim.Native.Nat.{ℕ}
use native.Mathlib.Decide.{ℕ_discrete}
use Rattle.algebra.specs.Field.{Places}

pub same_from : {A : Type 0} {m : ℕ} → Places A m → (x y : A) → Dec (x ≡ y)
same_from p x y =
    elim (ℕ_discrete (p.num x) (p.num y)) [
      | yes e ↦ yes (sym (p.at_num x) ∙ ap p.at e ∙ p.at_num y)
      | no n ↦ no (λ h. n (ap p.num h))
    ]
