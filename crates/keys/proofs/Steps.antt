-- What the steps of a make say of the seeds.
use Rattle.std.specs.Simd.{first_chunks}
use Rattle.std.proofs.lemmas.List.{drop-drop}
use Rattle.std.proofs.Common.{◌≡◌, ℕ, zero, suc, refl, ap, get_or, ◌+◌, ◌-◌, ◌*◌, ◌<◌, ◌≤◌, true, false, eqb, List, [], ◌∷◌, length, take, drop, Ok, Err, Option, sym, ◌∙◌, mul-le-mul_left, arith, length-drop, length-take}
use Rattle.std.proofs.lemmas.Bool.{eq-eqb, ne_eqb}
use Rattle.levels.specs.declared.Sizes.{Sizes}
use Rattle.levels.specs.declared.faults.Fault.TheVariants.{NoUsableSeed}
use Rattle.levels.specs.Rows.{answer}
use Rattle.levels.specs.Table.{Lawful}
use Rattle.algebra.specs.Field.{Ops, Places}
use Rattle.bits.specs.Kernels.{independent}
use Rattle.bits.specs.Search.{first_place, Found}
use Rattle.bits.proofs.Search.{first_here}
use Rattle.shuffles.specs.Orders.{order}
use Rattle.goppa.specs.Matrix.{mixed_matrix}
use Rattle.keys.specs.Secret.{written, mixed_by}
use Rattle.keys.specs.Seeds.{support_of_seed, goppa_of, mixed_of, usable, seed_of, count_of, taken_of, Taken, secret_key_of}
use Rattle.keys.specs.Calls.{seed_row}

-- a seed, as one of the chunks of the list
pub chunk_at : (k i : ℕ) (seeds : List ℕ) → i < k → get_or (first_chunks 32 k seeds) i [] ≡ seed_of seeds i
chunk_at zero i seeds l = absurd (omega arith)
chunk_at (suc k) zero seeds l = refl
chunk_at (suc k) (suc i) seeds l = chunk_at k i (drop 32 seeds) (omega arith) ∙ ap (take 32) (drop-drop (32 * i) 32 seeds ∙ ap (λ (j : ℕ). drop j seeds) (omega arith))

-- a seed, as a part of the list
pub seed_part : (seeds : List ℕ) (i : ℕ) → take (32 * i + 32 - 32 * i) (drop (32 * i) seeds) ≡ seed_of seeds i
seed_part seeds i = let e : 32 * i + 32 - 32 * i ≡ 32 = omega arith in rw e

pub seed_length : (seeds : List ℕ) (i : ℕ) → i < count_of seeds → length (seed_of seeds i) ≡ 32
seed_length seeds i l = simp (length-take, length-drop) (omega arith)

-- the square part fits where HP does
pub square_fits : (s : Sizes) → Lawful s → 8 * s.body * s.body ≤ s.rows * s.vector
square_fits s h = rw (← h.body) (mul-le-mul_left s.rows h.shorter)

pub bits_rows : (s : Sizes) → Lawful s → (bits t : ℕ) → bits ≡ s.m → t ≡ s.t → bits * t ≡ 8 * s.body
bits_rows s h bits t eb et = rw (eb, et) (sym h.rows ∙ h.body)

module _ {A : Type 0} {m : ℕ} (f : Ops A) (pl : Places A m) (s : Sizes) (code seeds : List ℕ) where
  -- the search, over the numbers and lists that stand in memory
  pub taken_same :
      (o : Option ℕ) (r t n : ℕ) (g support : List ℕ) → r ≡ s.rows → t ≡ s.t → n ≡ s.n → g ≡ goppa_of f pl s code → support ≡ support_of_seed m s code
      → Found o (count_of seeds) (λ i. independent r (mixed_matrix f pl t g support (order n (seed_of seeds i)))) → Taken o f pl s code seeds
  taken_same o r t n g support er et en eg es h = rw (er, et, en, eg, es) at h

  -- the place that the search finds, over the same
  pub taken_same_place :
      (r t n : ℕ) (g support : List ℕ) → r ≡ s.rows → t ≡ s.t → n ≡ s.n → g ≡ goppa_of f pl s code → support ≡ support_of_seed m s code
      → first_place (count_of seeds) (λ i. independent r (mixed_matrix f pl t g support (order n (seed_of seeds i)))) ≡ taken_of f pl s code seeds
  taken_same_place r t n g support er et en eg es = rw (er, et, en, eg, es)

  pub none_usable : taken_of f pl s code seeds ≡ count_of seeds → Err (NoUsableSeed (count_of seeds)) ≡ answer (seed_row f pl s code seeds ∷ [])
  none_usable e =
      let b : eqb (taken_of f pl s code seeds) (count_of seeds) ≡ true = eq-eqb (taken_of f pl s code seeds) (count_of seeds) e in
      rw b

  -- the same, by the place that the search finds
  pub none_usable_at : (taken : ℕ) → taken ≡ taken_of f pl s code seeds → taken ≡ count_of seeds → Err (NoUsableSeed taken) ≡ answer (seed_row f pl s code seeds ∷ [])
  none_usable_at taken et ec =
      let b : eqb (taken_of f pl s code seeds) (count_of seeds) ≡ true = eq-eqb (taken_of f pl s code seeds) (count_of seeds) (sym et ∙ ec) in
      rw (b, ec)

  pub one_usable : (taken : ℕ) → taken ≡ taken_of f pl s code seeds → taken < count_of seeds → Ok tt ≡ answer (seed_row f pl s code seeds ∷ [])
  one_usable taken et lt =
      let b : eqb (taken_of f pl s code seeds) (count_of seeds) ≡ false = ne_eqb (taken_of f pl s code seeds) (count_of seeds) (λ e. omega arith) in
      rw b

  pub taken_usable : taken_of f pl s code seeds < count_of seeds → usable f pl s code (seed_of seeds (taken_of f pl s code seeds)) ≡ true
  taken_usable lt = first_here (count_of seeds) (λ i. usable f pl s code (seed_of seeds i)) lt

  module _ (g support : List ℕ) (taken : ℕ) (eg : g ≡ goppa_of f pl s code) (es : support ≡ support_of_seed m s code) (et : taken ≡ taken_of f pl s code seeds) where
    -- HP as it stands in memory
    pub mixed_is : mixed_by f pl s support g (seed_of seeds taken) ≡ mixed_of f pl s code (seed_of seeds (taken_of f pl s code seeds))
    mixed_is = rw (eg, es, et)

    -- the secret key as it is written
    pub secret_is :
        (decoy : List ℕ)
        → written s support g (mixed_by f pl s support g (seed_of seeds taken)) (seed_of seeds taken) decoy ≡ secret_key_of f pl s code (seed_of seeds (taken_of f pl s code seeds)) decoy
    secret_is decoy = rw (eg, es, et)
