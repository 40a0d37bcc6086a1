-- The code of a seed, over a field of 2^m elements: the first n of a shuffled list are the support, and the next t the zeros.
use Rattle.std.specs.Prelude.{ℕ, ◌+◌, ◌^◌, ◌<◌, ◌≤◌, List, take, drop, ◌≢◌, slice_index}
use Rattle.std.specs.List.{range_with_len}
use Rattle.algebra.specs.Field.{Ops, Places}
use Rattle.polys.specs.Values.{value}
use Rattle.shuffles.specs.Shuffle.{shuffled}
use Rattle.shuffles.specs.Orders.{Permutation}
use Rattle.goppa.specs.Zeros.{Zeros}

-- the places 0, 1, .., 2^m - 1, shuffled
abbrev pub code_list : ℕ → List ℕ → List ℕ
code_list m seed = shuffled seed (range_with_len 0 (2 ^ m))

abbrev pub support : ℕ → List ℕ → List ℕ
support n l = take n l

abbrev pub zeros : ℕ → ℕ → List ℕ → List ℕ
zeros n t l = take t (drop n l)

-- a polynomial that has the zeros of a code, and no other, is not zero on its support
abbrev pub OffSupport : {A : Type 0} {m : ℕ} → Ops A → Places A m → Type 0
OffSupport {m = m} f pl =
    (n t : ℕ) (l g : List ℕ) → Permutation (2 ^ m) l → n + t ≤ 2 ^ m → Zeros f pl (value f pl g) (zeros n t l)
    → (j : ℕ) → j < n → value f pl g (pl.at (slice_index (support n l) j)) ≢ f.zero
