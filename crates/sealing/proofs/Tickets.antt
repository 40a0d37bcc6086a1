-- What is written, in the words of tickets.
use Rattle.std.proofs.Common.{◌≡◌, ℕ, ◌+◌, ◌-◌, ◌*◌, ◌<◌, List, [], ◌++◌, length, codes, refl, ap, ◌∙◌, inl, inr, arith}
use Rattle.std.proofs.lemmas.List.{append-nil}
use Rattle.std.proofs.lemmas.Bool.{cases_lt, lt-ltb, le-ltb}
use Rattle.levels.specs.declared.Sizes.{Sizes}
use Rattle.levels.specs.Table.{Lawful}
use Rattle.bits.specs.Vectors.{Vector, Matrix, times, systematic, weight}
use Rattle.bits.specs.Packed.{vector, matrix, packed, Bytes}
use Rattle.bits.proofs.Sums.{dot_same}
use Rattle.bits.proofs.Packing.{packed_is, packed_same, vector_packed}
use Rattle.shuffles.specs.Orders.{order, place_of, perm}
use Rattle.shuffles.proofs.Shuffles.{order_permutes}
use Rattle.shuffles.proofs.Orders.{place_below}
use Rattle.sealing.specs.Tickets.{Rule, head_of, body_of, ticket_of, Seals, key_of}
use Rattle.sealing.specs.Calls.{public_matrix, seed_vector, Sealed}

-- the bytes of a vector are its packing
pub own_packing : (q : ℕ) (e : List ℕ) → length e ≡ q → Bytes e → e ≡ packed q (vector e)
own_packing q e n small = packed_is q (vector e) e n small (λ i l. refl)

pub head_is :
    (s : Sizes) (rule : Rule) (e : List ℕ) → length e ≡ s.vector → Bytes e → rule (codes "PALOMAGG" ++ (e ++ [])) ≡ head_of s rule (vector e)
unfolding head_of
head_is s rule e n small = ap (λ (x : List ℕ). rule (codes "PALOMAGG" ++ x)) (append-nil e ∙ own_packing s.vector e n small)

-- only the first 8 q bits of the permuted vector count
permuted_product :
    (r q : ℕ) (M : Matrix) (v : Vector) (n : ℕ) → n ≡ 8 * q
    → packed r (times n M (vector (packed q v))) ≡ packed r (times n M v)
permuted_product r q M v n e =
    packed_same r (times n M (vector (packed q v))) (times n M v)
    (λ i l. dot_same n (M i) (M i) (vector (packed q v)) v (λ j m. refl) (λ j m. vector_packed q v j (omega arith)))

pub body_is :
    (s : Sizes) → Lawful s → (public head e : List ℕ) (r q n : ℕ) → r ≡ s.body → q ≡ s.vector → n ≡ s.n
    → packed r (times (8 * q) (systematic (8 * r) (matrix (q - r) public)) (vector (packed q (perm (order n head) (vector e)))))
    ≡ body_of s (public_matrix s public) head (vector e)
unfolding body_of
body_is s h public head e r q n er eq en =
    let a : 8 * q ≡ s.n = omega (arith, h.vector) in
    let b : 8 * r ≡ s.rows = omega (arith, h.body) in
    rw (a, b, er, eq, en)
    (permuted_product s.body s.vector (systematic s.rows (public_matrix s public)) (perm (order s.n head) (vector e)) s.n h.vector)

pub seals :
    (s : Sizes) (rule : Rule) (M : Matrix) (v : Vector) (head body ticket : List ℕ) → ticket ≡ head ++ body → head ≡ head_of s rule v
    → body ≡ body_of s M head v → Seals s rule M v ticket
unfolding ticket_of
seals s rule M v head body ticket e p q =
    e ∙ (ap (λ (x : List ℕ). head ++ x) q ∙ ap (λ (x : List ℕ). x ++ body_of s M x v) p)

-- only the first n bits of a vector count
module _ (s : Sizes) (h : Lawful s) (rule : Rule) (v w : Vector) (e : (i : ℕ) → i < s.n → v i ≡ w i) where
  bytes_same : packed s.vector v ≡ packed s.vector w
  bytes_same = packed_same s.vector v w (λ i l. e i (omega (arith, h.vector)))

  pub head_same : head_of s rule v ≡ head_of s rule w
  unfolding head_of
  head_same = ap (λ (x : List ℕ). rule (codes "PALOMAGG" ++ x)) bytes_same

  body_same : (M : Matrix) (head : List ℕ) → body_of s M head v ≡ body_of s M head w
  unfolding body_of
  body_same M head =
      packed_same s.body _ _
      (λ i l. dot_same s.n (systematic s.rows M i) (systematic s.rows M i) (perm (order s.n head) v) (perm (order s.n head) w) (λ j m. refl)
      (λ j m. e (place_of (order s.n head) j) (place_below s.n (order s.n head) (order_permutes s.n head) j m)))

  pub key_same : (ticket : List ℕ) → key_of s rule v ticket ≡ key_of s rule w ticket
  unfolding key_of
  key_same ticket = ap (λ (x : List ℕ). rule (codes "PALOMAHH" ++ (x ++ ticket))) bytes_same

  pub seals_same : (M : Matrix) (ticket : List ℕ) → Seals s rule M v ticket → Seals s rule M w ticket
  unfolding ticket_of
  seals_same M ticket seals =
      seals ∙ (ap (λ (x : List ℕ). x ++ body_of s M x v) head_same ∙ ap (λ (x : List ℕ). head_of s rule w ++ x) (body_same M (head_of s rule w)))

-- only the first k columns of the rows of M count
systematic_same :
    (r k : ℕ) (M N : Matrix) → ((i j : ℕ) → i < r → j < k → M i j ≡ N i j)
    → (i j : ℕ) → i < r → j < r + k → systematic r M i j ≡ systematic r N i j
unfolding systematic
systematic_same r k M N e i j l m =
    elim (cases_lt j r) [ inl a ↦ rw (lt-ltb j r a) | inr a ↦ rw (le-ltb j r a) (e i (j - r) l (omega arith)) ]

module _ (s : Sizes) (h : Lawful s) (M N : Matrix) (e : (i j : ℕ) → i < s.rows → j < s.k → M i j ≡ N i j) where
  body_of_same : (head : List ℕ) (v : Vector) → body_of s M head v ≡ body_of s N head v
  unfolding body_of
  body_of_same head v =
      let x = perm (order s.n head) v in
      packed_same s.body _ _
      (λ i l. dot_same s.n (systematic s.rows M i) (systematic s.rows N i) x x
      (λ j m. systematic_same s.rows s.k M N e i j (omega (arith, h.body)) (omega (arith, h.columns))) (λ j m. refl))

  pub seals_matrix : (rule : Rule) (v : Vector) (ticket : List ℕ) → Seals s rule M v ticket → Seals s rule N v ticket
  unfolding ticket_of
  seals_matrix rule v ticket seals = seals ∙ ap (λ (x : List ℕ). head_of s rule v ++ x) (body_of_same (head_of s rule v) v)

-- ticket and key of the error vector that the bytes e hold
pub sealed :
    (s : Sizes) (h : Lawful s) (rule : Rule) (public seed e ticket key : List ℕ) → e ≡ packed s.vector (seed_vector s seed)
    → weight s.n (seed_vector s seed) ≡ s.t → Seals s rule (public_matrix s public) (vector e) ticket → key ≡ rule (codes "PALOMAHH" ++ (e ++ ticket))
    → Sealed s rule public seed ticket key
unfolding key_of
sealed s h rule public seed e ticket key is weighs seals opens =
    record {
      weighs = weighs;
      seals =
          seals_same s h rule (vector e) (seed_vector s seed)
          (λ i l. ap (λ (x : List ℕ). vector x i) is ∙ vector_packed s.vector (seed_vector s seed) i (omega (arith, h.vector)))
          (public_matrix s public) ticket seals;
      opens = opens ∙ ap (λ (x : List ℕ). rule (codes "PALOMAHH" ++ (x ++ ticket))) is;
    }
