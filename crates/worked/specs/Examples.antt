-- The worked examples.
use Rattle.std.specs.Prelude.{◌≡◌, ℕ, Bool, true, false, List, [], ◌∷◌, map, replicate, ◌==◌}
use Rattle.std.specs.List.{range_with_len}
use Rattle.bits.specs.Vectors.{Vector}
use Rattle.bits.specs.Packed.{packed}
use Rattle.shuffles.specs.Orders.{order, perm, perm_inv, error_vector_of}

-- the seed whose first words are the given bytes, and its other words zero
abbrev pub seed_zero : List ℕ
seed_zero = replicate 32 0

abbrev pub seed_of_words : List ℕ
seed_of_words = 0 ∷ 7 ∷ 0 ∷ 2 ∷ 0 ∷ 5 ∷ 0 ∷ 1 ∷ replicate 24 0

-- the first five bits of a vector
abbrev pub five : Vector → List Bool
five v = map v (range_with_len 0 5)

-- a one at place 0, and zeros elsewhere
abbrev pub first : Vector
first j = j == 0

abbrev pub turned : List ℕ
turned = 1 ∷ 2 ∷ 3 ∷ 4 ∷ 0 ∷ []

pub record Examples : Type 0 where
  -- seed zero shuffles 0 to 4
  pub shuffle_zero : order 5 seed_zero ≡ turned
  -- and so do the words 7, 2, 5, 1
  pub shuffle_words : order 5 seed_of_words ≡ 0 ∷ 1 ∷ 3 ∷ 4 ∷ 2 ∷ []
  -- Perm takes 10000 to 01000
  pub perm_first : five (perm turned first) ≡ false ∷ true ∷ false ∷ false ∷ false ∷ []
  -- PermInv takes 10000 to 00001
  pub perm_inv_first : five (perm_inv turned first) ≡ false ∷ false ∷ false ∷ false ∷ true ∷ []
  -- the sample's error vector of seed zero
  pub error_zero : packed 7 (error_vector_of 56 4 seed_zero) ≡ 0x78 ∷ 0 ∷ 0 ∷ 0 ∷ 0 ∷ 0 ∷ 0 ∷ []
