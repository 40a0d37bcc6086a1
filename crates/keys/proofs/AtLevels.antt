-- What is made over a field, said of the level.
use Rattle.std.proofs.Common.{◌≡◌, ℕ, ◌⊎◌, List, [], ◌∷◌, Ok, Err, Result, sym, refl, ap, ◌∙◌, subst, inl, inr, arith}
use Rattle.levels.specs.declared.Level.{Level}
use Rattle.levels.specs.declared.Level.TheVariants.{Sample, Level128, Level192, Level256}
use Rattle.levels.specs.declared.Sizes.{Sizes}
use Rattle.levels.specs.declared.faults.Fault.{Fault}
use Rattle.levels.specs.Rows.{answer}
use Rattle.levels.specs.Table.{sizes_of}
use Rattle.algebra.specs.Field.{Ops, Places}
use Rattle.field64.specs.Model.{ops64, places64}
use Rattle.field8192.specs.Model.{ops8192, places8192}
use Rattle.keys.specs.Calls.{seed_row, tried_at, Made, MadeAt}

-- what a call gives if it is accepted, and if it is refused
abbrev pub Given : Result (Unit {0}) Fault → Type 0 → Type 0 → Type 0
Given r P Q = elim r as (λ _. Type 0) [ Ok _ ↦ P | Err _ ↦ Q ]

pub given_same : (r : Result (Unit {0}) Fault) (P P' Q : Type 0) → (P → P') → Given r P Q → Given r P' Q
given_same (Ok x) P P' Q f p = f p
given_same (Err f) P P' Q _ q = q

-- an answer and keys over a field, at given sizes
pub record Over {A : Type 0} {m : ℕ} (f : Ops A) (pl : Places A m) (s : Sizes) (r : Result (Unit {0}) Fault) (code seeds decoy public secret : List ℕ) (Q : Type 0) : Type 0 where
  pub answer : r ≡ answer (seed_row f pl s code seeds ∷ [])
  pub gives : Given r (Made f pl s code seeds decoy public secret) Q

-- the same at a level
pub record At (l : Level) (r : Result (Unit {0}) Fault) (code seeds decoy public secret : List ℕ) (Q : Type 0) : Type 0 where
  pub answer : r ≡ tried_at (Ok l) code seeds
  pub gives : Given r (MadeAt (Ok l) code seeds decoy public secret) Q

pub no_sample : (l : Level) → (l ≡ Level128) ⊎ ((l ≡ Level192) ⊎ (l ≡ Level256)) → l ≡ Sample → ⊥
no_sample l (inl a) e = let z : ◌≡◌ {A = ℕ} 0 1 = cc in omega arith
no_sample l (inr (inl a)) e = let z : ◌≡◌ {A = ℕ} 0 1 = cc in omega arith
no_sample l (inr (inr a)) e = let z : ◌≡◌ {A = ℕ} 0 1 = cc in omega arith

module _ (r : Result (Unit {0}) Fault) (code seeds decoy public secret : List ℕ) (Q : Type 0) where
  moved : {A : Type 0} {m : ℕ} (f : Ops A) (pl : Places A m) (s s' : Sizes) → s ≡ s' → Over f pl s r code seeds decoy public secret Q → Over f pl s' r code seeds decoy public secret Q
  moved f pl s s' e h = let P : Sizes → Type 0 = λ x. Over f pl x r code seeds decoy public secret Q in subst P e h

  pub at_sample : (l : Level) (s : Sizes) → l ≡ Sample → s ≡ sizes_of l → Over ops64 places64 s r code seeds decoy public secret Q → At l r code seeds decoy public secret Q
  at_sample l s e es h =
      let P : Level → Type 0 = λ x. At x r code seeds decoy public secret Q in
      let o = moved ops64 places64 s (sizes_of Sample) (es ∙ ap sizes_of e) h in
      subst P (sym e) (record { answer = o.answer; gives = o.gives })

  pub at_large :
      (l : Level) (s : Sizes) → (l ≡ Sample → ⊥) → s ≡ sizes_of l → Over ops8192 places8192 s r code seeds decoy public secret Q → At l r code seeds decoy public secret Q
  at_large Sample s n es h = absurd (n refl)
  at_large Level128 s n es h = let o = moved ops8192 places8192 s (sizes_of Level128) es h in record { answer = o.answer; gives = o.gives }
  at_large Level192 s n es h = let o = moved ops8192 places8192 s (sizes_of Level192) es h in record { answer = o.answer; gives = o.gives }
  at_large Level256 s n es h = let o = moved ops8192 places8192 s (sizes_of Level256) es h in record { answer = o.answer; gives = o.gives }
