-- A written secret key: its parts, the matrices that they give, and what it means that a ticket seals a vector to it.
-- It is the support, the coefficients g_0 to g_(t-1), the matrix named S⁻¹, the mixing seed and the decoy seed.
use Rattle.std.specs.Prelude.{◌≡◌, ℕ, ◌+◌, ◌-◌, ◌*◌, List, [], ◌∷◌, ◌++◌, map, take, drop}
use Rattle.std.specs.List.{range_with_len}
use Rattle.levels.specs.declared.Sizes.{Sizes}
use Rattle.algebra.specs.Field.{Ops, Places}
use Rattle.bits.specs.Vectors.{Vector, Matrix, weight}
use Rattle.bits.specs.Packed.{matrix}
use Rattle.bits.specs.Words.{word, word_bytes}
use Rattle.bits.specs.Reduced.{reduced_of}
use Rattle.bits.specs.Rows.{matrix_bytes}
use Rattle.shuffles.specs.Orders.{order}
use Rattle.goppa.specs.Matrix.{mixed_matrix}
use Rattle.sealing.specs.Tickets.{Rule, Seals}

-- the key with these parts; g has the coefficients up to X^t, and A the columns of S⁻¹ in front
unfoldable pub written : Sizes → (support g : List ℕ) → Matrix → (mixing decoy : List ℕ) → List ℕ
written s support g A mixing decoy =
    word_bytes support ++ (word_bytes (take s.t g) ++ (matrix_bytes s.rows s.body A ++ (mixing ++ decoy)))

-- where its last parts begin
abbrev pub matrix_from : Sizes → ℕ
matrix_from s = 2 * s.n + 2 * s.t

abbrev pub mixing_from : Sizes → ℕ
mixing_from s = matrix_from s + s.rows * s.body

abbrev pub decoy_from : Sizes → ℕ
decoy_from s = mixing_from s + 32

-- the parts, as they are read
unfoldable pub support_in : Sizes → List ℕ → List ℕ
support_in s key = map (word key) (range_with_len 0 s.n)

-- g is monic: its coefficient of X^t is not written
unfoldable pub goppa_in : {A : Type 0} {m : ℕ} → Ops A → Places A m → Sizes → List ℕ → List ℕ
goppa_in f pl s key = map (λ i. word key (s.n + i)) (range_with_len 0 s.t) ++ (pl.num f.one ∷ [])

unfoldable pub matrix_in : Sizes → List ℕ → Matrix
matrix_in s key = matrix s.body (drop (matrix_from s) key)

unfoldable pub mixing_in : Sizes → List ℕ → List ℕ
mixing_in s key = take 32 (drop (mixing_from s) key)

unfoldable pub decoy_in : Sizes → List ℕ → List ℕ
decoy_in s key = take 32 (drop (decoy_from s) key)

-- HP: the check matrix of a support and g, its columns in the order of a mixing seed
abbrev pub mixed_by : {A : Type 0} {m : ℕ} → Ops A → Places A m → Sizes → (support g mixing : List ℕ) → Matrix
mixed_by f pl s support g mixing = mixed_matrix f pl s.t g support (order s.n mixing)

-- HP of a written key
abbrev pub mixed_in : {A : Type 0} {m : ℕ} → Ops A → Places A m → Sizes → List ℕ → Matrix
mixed_in f pl s key = mixed_by f pl s (support_in s key) (goppa_in f pl s key) (mixing_in s key)

-- M, where [I | M] is the reduced row echelon form of HP
abbrev pub key_matrix : {A : Type 0} {m : ℕ} → Ops A → Places A m → Sizes → List ℕ → Matrix
key_matrix f pl s key = reduced_of s.rows (mixed_in f pl s key)

-- a matrix M as a public key
abbrev pub public_key_of : Sizes → Matrix → List ℕ
public_key_of s M = matrix_bytes s.rows (s.vector - s.body) M

-- the public key that seals to a written key
abbrev pub public_key_for : {A : Type 0} {m : ℕ} → Ops A → Places A m → Sizes → List ℕ → List ℕ
public_key_for f pl s key = public_key_of s (key_matrix f pl s key)

-- a ticket seals a vector to a written key: the vector has t ones, and the ticket is built from it with the key's M
pub record SealsTo {A : Type 0} {m : ℕ} (f : Ops A) (pl : Places A m) (s : Sizes) (rule : Rule) (key : List ℕ) (e : Vector) (ticket : List ℕ) : Type 0 where
  pub weighs : weight s.n e ≡ s.t
  pub seals : Seals s rule (key_matrix f pl s key) e ticket
