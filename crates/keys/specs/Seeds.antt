-- The keys of seeds. The elements in the order of the code seed begin with the support; after it come the zeros of g.
use Rattle.std.specs.Prelude.{◌≡◌, ℕ, ◌+◌, ◌*◌, ◌/◌, Bool, Option, List, map, length, take, drop}
use Rattle.std.specs.List.{range_with_len}
use Rattle.levels.specs.declared.Sizes.{Sizes}
use Rattle.algebra.specs.Field.{Ops, Places}
use Rattle.bits.specs.Vectors.{Matrix}
use Rattle.bits.specs.Kernels.{independent, Echelon}
use Rattle.bits.specs.Reduced.{reduced_of}
use Rattle.bits.specs.Search.{first_place, Found}
use Rattle.goppa.specs.Codes.{code_list, support, zeros}
use Rattle.goppa.specs.Zeros.{from_zeros}
use Rattle.sealing.specs.Tickets.{Rule}
use Rattle.sealing.specs.Calls.{public_matrix, seed_vector, Sealed}
use Rattle.keys.specs.Secret.{written, mixed_by, public_key_of, public_key_for, SealsTo}
use Rattle.keys.specs.Sound.{Sound}

unfoldable pub support_of_seed : ℕ → Sizes → List ℕ → List ℕ
support_of_seed m s code = support s.n (code_list m code)

unfoldable pub zeros_of : ℕ → Sizes → List ℕ → List ℕ
zeros_of m s code = zeros s.n s.t (code_list m code)

-- the coefficients of g up to X^t, each by its place
unfoldable pub goppa_of : {A : Type 0} {m : ℕ} → Ops A → Places A m → Sizes → List ℕ → List ℕ
goppa_of {m = m} f pl s code =
    map (λ i. pl.num (from_zeros f (map pl.at (zeros_of m s code)) i)) (range_with_len 0 (s.t + 1))

-- HP
abbrev pub mixed_of : {A : Type 0} {m : ℕ} → Ops A → Places A m → Sizes → (code mixing : List ℕ) → Matrix
mixed_of {m = m} f pl s code mixing = mixed_by f pl s (support_of_seed m s code) (goppa_of f pl s code) mixing

-- a mixing seed is usable if the first mt columns of HP are independent
abbrev pub usable : {A : Type 0} {m : ℕ} → Ops A → Places A m → Sizes → (code mixing : List ℕ) → Bool
usable f pl s code mixing = independent s.rows (mixed_of f pl s code mixing)

-- seed i of a list of seeds
abbrev pub seed_of : List ℕ → ℕ → List ℕ
seed_of seeds i = take 32 (drop (32 * i) seeds)

-- how many seeds a list has
abbrev pub count_of : List ℕ → ℕ
count_of seeds = length seeds / 32

-- the number of the first usable seed of a list, or how many seeds it has
abbrev pub taken_of : {A : Type 0} {m : ℕ} → Ops A → Places A m → Sizes → (code seeds : List ℕ) → ℕ
taken_of f pl s code seeds = first_place (count_of seeds) (λ i. usable f pl s code (seed_of seeds i))

-- what the search for it answers
abbrev pub Taken : {A : Type 0} {m : ℕ} → Option ℕ → Ops A → Places A m → Sizes → (code seeds : List ℕ) → Type 0
Taken o f pl s code seeds = Found o (count_of seeds) (λ i. usable f pl s code (seed_of seeds i))

-- the secret key of a code seed, a mixing seed and a decoy seed
abbrev pub secret_key_of : {A : Type 0} {m : ℕ} → Ops A → Places A m → Sizes → (code mixing decoy : List ℕ) → List ℕ
secret_key_of {m = m} f pl s code mixing decoy =
    written s (support_of_seed m s code) (goppa_of f pl s code) (mixed_of f pl s code mixing) mixing decoy

-- What an accepted make writes, where `mixing` is the seed that it takes.
pub record Pair {A : Type 0} {m : ℕ} (f : Ops A) (pl : Places A m) (s : Sizes) (code mixing decoy public secret : List ℕ) : Type 0 where
  -- the keys are those of the seeds
  pub public_is : public ≡ public_key_of s (reduced_of s.rows (mixed_of f pl s code mixing))
  pub secret_is : secret ≡ secret_key_of f pl s code mixing decoy
  -- [I | M] is the reduced row echelon form of HP
  pub echelon : Echelon s.rows s.k (mixed_of f pl s code mixing) (public_matrix s public)
  -- the written secret key is sound, and the public key is the one that seals to it
  pub sound : Sound f pl s secret
  pub fits : public ≡ public_key_for f pl s secret
  -- a ticket that is sealed with the public key seals its seed's error vector to the secret key
  pub seals :
      (rule : Rule) (seed ticket key : List ℕ) → Sealed s rule public seed ticket key → SealsTo f pl s rule secret (seed_vector s seed) ticket
