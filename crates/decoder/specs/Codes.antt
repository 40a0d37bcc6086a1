-- A Goppa code by places: the Goppa polynomial's coefficients, its zeros, and the support.
use Rattle.std.specs.Prelude.{◌≡◌, ℕ, ◌+◌, ◌^◌, ◌<◌, ◌≤◌, List, length, ◌≢◌, slice_index}
use Rattle.algebra.specs.Field.{Ops, Places}
use Rattle.polys.specs.Coefs.{coefs}
use Rattle.polys.specs.Values.{value}
use Rattle.shuffles.specs.Orders.{Permutation}
use Rattle.goppa.specs.Zeros.{Monic, Zeros, AllPlaces}
use Rattle.goppa.specs.Codes.{support, zeros}

-- places of different elements
pub record Different (m : ℕ) (l : List ℕ) : Type 0 where
  pub places : AllPlaces m l
  pub once : (i j : ℕ) → i < length l → j < length l → slice_index l i ≡ slice_index l j → i ≡ j

-- g is monic of degree t and has t different zeros in the field; the support's elements differ, and g is zero at none of them
pub record CodeOf {A : Type 0} {m : ℕ} (f : Ops A) (pl : Places A m) (t : ℕ) (g support zeros : List ℕ) : Type 0 where
  pub monic : Monic f t (coefs pl g)
  pub count : length zeros ≡ t
  pub zeros_differ : Different m zeros
  pub zero : (j : ℕ) → j < t → value f pl g (pl.at (slice_index zeros j)) ≡ f.zero
  pub support_differ : Different m support
  pub off : (j : ℕ) → j < length support → value f pl g (pl.at (slice_index support j)) ≢ f.zero

-- the support and the zeros of a code's list, and the monic polynomial with these zeros
abbrev pub CodeOfList : {A : Type 0} {m : ℕ} → Ops A → Places A m → Type 0
CodeOfList {m = m} f pl =
    (n t : ℕ) (l g : List ℕ) → Permutation (2 ^ m) l → n + t ≤ 2 ^ m → Monic f t (coefs pl g) → Zeros f pl (value f pl g) (zeros n t l)
    → CodeOf f pl t g (support n l) (zeros n t l)
