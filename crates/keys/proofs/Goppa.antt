-- The code of a seed: its support, and the polynomial g that has its zeros.
use Rattle.std.proofs.Common.{◌≡◌, ℕ, ◌+◌, ◌^◌, ◌<◌, ◌≤◌, List, map, length, get_or, drop, sym, ap, ◌∙◌, subst, inl, inr, arith}
use mathlib.Core.Path.{fun_ext}
use Rattle.std.proofs.lemmas.List.FromFn.{length-map-range_with_len, get_or-map-range_with_len, fill_by_all}
use Rattle.std.proofs.lemmas.List.{length-take-le, length-drop, length-map, get_or-take, get_or-drop, get_or_past}
use Rattle.std.proofs.lemmas.Bool.{cases_lt}
use Rattle.levels.specs.declared.Sizes.{Sizes}
use Rattle.levels.specs.Table.{Lawful}
use Rattle.algebra.specs.Field.{Ops, Laws, Places}
use Rattle.algebra.specs.Series.{Series}
use Rattle.polys.specs.Coefs.{coefs}
use Rattle.polys.specs.Values.{value}
use Rattle.shuffles.specs.Orders.{order, Permutation}
use Rattle.shuffles.proofs.Shuffles.{order_permutes}
use Rattle.goppa.specs.Codes.{code_list}
use Rattle.goppa.specs.Zeros.{from_zeros, Zeros, AllPlaces}
use Rattle.goppa.proofs.Roots.{from_monic, zeros_are}
use Rattle.goppa.proofs.Support.{off_support}
use Rattle.keys.specs.Seeds.{support_of_seed, zeros_of, goppa_of}

-- the code lists all elements
pub code_permutes : (m : ℕ) (code : List ℕ) → Permutation (2 ^ m) (code_list m code)
unfolding order
code_permutes m code = order_permutes (2 ^ m) code

-- and has room for support and zeros
pub code_fits : (m : ℕ) (s : Sizes) → Lawful s → s.m ≡ m → s.n + s.t ≤ 2 ^ m
code_fits m s h e = subst (λ (q : ℕ). s.n + s.t ≤ 2 ^ q) e h.code

module _ (m : ℕ) (s : Sizes) (code : List ℕ) (le : s.n + s.t ≤ 2 ^ m) where
  pub support_length : length (support_of_seed m s code) ≡ s.n
  unfolding support_of_seed
  support_length = length-take-le s.n (code_list m code) (omega (arith, (code_permutes m code).long))

  pub zeros_length : length (zeros_of m s code) ≡ s.t
  unfolding zeros_of
  zeros_length =
      length-take-le s.t (drop s.n (code_list m code))
      (omega (arith, (code_permutes m code).long, length-drop s.n (code_list m code)))

  pub support_at : (j : ℕ) → j < s.n → get_or (support_of_seed m s code) j 0 ≡ get_or (code_list m code) j 0
  unfolding support_of_seed
  support_at j l = get_or-take s.n (code_list m code) j 0 l

  pub zeros_at : (j : ℕ) → j < s.t → get_or (zeros_of m s code) j 0 ≡ get_or (code_list m code) (s.n + j) 0
  unfolding zeros_of
  zeros_at j l = get_or-take s.t (drop s.n (code_list m code)) j 0 l ∙ get_or-drop s.n (code_list m code) j 0

  -- each entry of the support is a place
  pub support_below : (j : ℕ) → j < s.n → get_or (support_of_seed m s code) j 0 < 2 ^ m
  support_below j l = rw (support_at j l) ((code_permutes m code).below j (omega arith))

  -- and they differ
  pub support_different :
      (i j : ℕ) → i < s.n → j < s.n → get_or (support_of_seed m s code) i 0 ≡ get_or (support_of_seed m s code) j 0 → i ≡ j
  support_different i j li lj e =
      (code_permutes m code).different i j (omega arith) (omega arith) (sym (support_at i li) ∙ (e ∙ support_at j lj))

module _ {A : Type 0} {m : ℕ} (f : Ops A) (pl : Places A m) (s : Sizes) (code : List ℕ) where
  pub goppa_length : length (goppa_of f pl s code) ≡ s.t + 1
  unfolding goppa_of
  goppa_length = length-map-range_with_len (λ i. pl.num (from_zeros f (map pl.at (zeros_of m s code)) i)) 0 (s.t + 1)

  goppa_at : (i : ℕ) → i < s.t + 1 → get_or (goppa_of f pl s code) i 0 ≡ pl.num (from_zeros f (map pl.at (zeros_of m s code)) i)
  unfolding goppa_of
  goppa_at i l = get_or-map-range_with_len (λ i. pl.num (from_zeros f (map pl.at (zeros_of m s code)) i)) 0 (s.t + 1) i i 0 l (omega arith)

  goppa_past : (i : ℕ) → s.t + 1 ≤ i → get_or (goppa_of f pl s code) i 0 ≡ 0
  goppa_past i l = get_or_past (goppa_of f pl s code) i 0 (omega (arith, goppa_length))

  pub goppa_placed : AllPlaces m (goppa_of f pl s code)
  goppa_placed j =
      elim (cases_lt j (s.t + 1)) [
        | inl l ↦ rw (goppa_at j l) (pl.num_below (from_zeros f (map pl.at (zeros_of m s code)) j))
        | inr l ↦ rw (goppa_past j l) (omega (arith, pl.num_below f.zero))
      ]

  -- its coefficients up to X^t say which list it is
  pub goppa_is :
      (g : List ℕ) → length g ≡ s.t + 1 → AllPlaces m g → coefs pl g ≡ from_zeros f (map pl.at (zeros_of m s code)) → g ≡ goppa_of f pl s code
  unfolding goppa_of coefs
  goppa_is g n placed e =
      fill_by_all (λ i. pl.num (from_zeros f (map pl.at (zeros_of m s code)) i)) g (s.t + 1) 0 n
      (λ i l. sym (pl.num_at (get_or g i 0) (placed i)) ∙ ap (λ (p : Series A). pl.num (p i)) e)

module _ {A : Type 0} {m : ℕ} {f : Ops A} (k : Laws f) (pl : Places A m) (z : pl.at 0 ≡ f.zero) (s : Sizes) (code : List ℕ) (le : s.n + s.t ≤ 2 ^ m) where
  zeros_many : length (map pl.at (zeros_of m s code)) ≡ s.t
  zeros_many = length-map (zeros_of m s code) pl.at ∙ zeros_length m s code le

  pub goppa_coefs : coefs pl (goppa_of f pl s code) ≡ from_zeros f (map pl.at (zeros_of m s code))
  unfolding coefs
  goppa_coefs = fun_ext at where
    at : (i : ℕ) → pl.at (get_or (goppa_of f pl s code) i 0) ≡ from_zeros f (map pl.at (zeros_of m s code)) i
    at i =
        elim (cases_lt i (s.t + 1)) [
          | inl l ↦ ap pl.at (goppa_at f pl s code i l) ∙ pl.at_num (from_zeros f (map pl.at (zeros_of m s code)) i)
          | inr l ↦
              ap pl.at (goppa_past f pl s code i l)
              ∙ (z ∙ sym ((from_monic k (map pl.at (zeros_of m s code))).under i (omega (arith, zeros_many))))
        ]

  -- g is monic
  pub goppa_top : get_or (goppa_of f pl s code) s.t 0 ≡ pl.num f.one
  goppa_top =
      goppa_at f pl s code s.t (omega arith)
      ∙ ap pl.num (ap (from_zeros f (map pl.at (zeros_of m s code))) (sym zeros_many) ∙ (from_monic k (map pl.at (zeros_of m s code))).top)

  -- the zeros of g are those of the code
  pub goppa_zeros : Zeros f pl (value f pl (goppa_of f pl s code)) (zeros_of m s code)
  goppa_zeros = zeros_are k pl z (goppa_of f pl s code) (zeros_of m s code) goppa_coefs

  -- no entry of the support is one
  pub off : (j : ℕ) → j < s.n → value f pl (goppa_of f pl s code) (pl.at (get_or (support_of_seed m s code) j 0)) ≡ f.zero → ⊥
  unfolding support_of_seed zeros_of
  off = off_support f pl s.n s.t (code_list m code) (goppa_of f pl s code) (code_permutes m code) le goppa_zeros
