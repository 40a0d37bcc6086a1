-- Vectors that select columns: the first ones, one of them, or one with some before it.
use Rattle.std.proofs.Common.{◌≡◌, ℕ, zero, suc, ◌<◌, ◌≤◌, true, false, cond, eqb, ltb, refl, ◌∙◌, inl, inr, arith}
use Rattle.std.proofs.lemmas.Bool.{cases_eq, eq-eqb, ne_eqb, lt-ltb, le-ltb}
use Rattle.bits.specs.Vectors.{◌⊕◌, Vector, dot}
use Rattle.bits.proofs.Sums.{xor_zero, and_no, and_yes, dot_same, dot_one}

-- what selects within the first r places
pub dot_front : (r n : ℕ) (a x : Vector) → r ≤ n → ((j : ℕ) → r ≤ j → j < n → x j ≡ false) → dot n a x ≡ dot r a x
unfolding dot
dot_front r zero a x le h = let e : r ≡ zero = omega arith in rw e
dot_front r (suc n) a x le h =
    elim (cases_eq r (suc n)) [
      | inl e ↦ rw e
      | inr ne ↦
          rw (h n (omega arith) (omega arith), and_no (a n), xor_zero (dot n a x))
          (dot_front r n a x (omega arith) (λ j l m. h j l (omega arith)))
    ]

-- z up to r, then zeros
unfoldable pub padded : ℕ → Vector → Vector
padded r z j = cond (ltb j r) (z j) false

pub padded_below : (r : ℕ) (z : Vector) (j : ℕ) → j < r → padded r z j ≡ z j
unfolding padded
padded_below r z j l = rw (lt-ltb j r l)

pub padded_above : (r : ℕ) (z : Vector) (j : ℕ) → r ≤ j → padded r z j ≡ false
unfolding padded
padded_above r z j l = rw (le-ltb j r l)

pub dot_padded : (r n : ℕ) (a z : Vector) → r ≤ n → dot n a (padded r z) ≡ dot r a z
dot_padded r n a z le =
    dot_front r n a (padded r z) le (λ j l m. padded_above r z j l)
    ∙ dot_same r a a (padded r z) z (λ j l. refl) (λ j l. padded_below r z j l)

-- place j alone
unfoldable pub one_at : ℕ → Vector
one_at j k = eqb k j

pub dot_one_at : (n j : ℕ) (a : Vector) → j < n → dot n a (one_at j) ≡ a j
unfolding one_at
dot_one_at n j a l =
    dot_one n j a (one_at j) l (λ k m d. rw (ne_eqb k j d) (and_no (a k)))
    ∙ rw (eq-eqb j j refl) (and_yes (a j))

-- x up to c, then a one, then zeros
unfoldable pub with_one : ℕ → Vector → Vector
with_one c x j = cond (ltb j c) (x j) (eqb j c)

pub with_one_at : (c : ℕ) (x : Vector) → with_one c x c ≡ true
unfolding with_one
with_one_at c x = rw (le-ltb c c (omega arith), eq-eqb c c refl)

pub with_one_above : (c : ℕ) (x : Vector) (j : ℕ) → c < j → with_one c x j ≡ false
unfolding with_one
with_one_above c x j l = rw (le-ltb j c (omega arith), ne_eqb j c (omega arith))

with_one_below : (c : ℕ) (x : Vector) (j : ℕ) → j < c → with_one c x j ≡ x j
unfolding with_one
with_one_below c x j l = rw (lt-ltb j c l)

pub dot_with_one : (n c : ℕ) (a x : Vector) → c < n → dot n a (with_one c x) ≡ (dot c a x ⊕ a c)
unfolding dot
dot_with_one n c a x l =
    dot_front (suc c) n a (with_one c x) l (λ j m p. with_one_above c x j m)
    ∙ rw (dot_same c a a (with_one c x) x (λ j m. refl) (λ j m. with_one_below c x j m), with_one_at c x, and_yes (a c))
