-- The elimination that skips a column without a pivot counts the columns that are no sum of earlier ones.
use Rattle.std.proofs.Common.{◌≡◌, ℕ, zero, suc, ◌+◌, ◌<◌, ◌≤◌, Bool, true, false, ◌&&◌, eqb, ltb, sym, refl, ap, ◌∙◌, inl, inr, add-one, arith}
use Rattle.std.proofs.lemmas.Bool.{cases_eq, cases_lt, cases_Bool, lt-ltb, le-ltb, eq-eqb, ne_eqb, both_ways}
use Rattle.bits.specs.Vectors.{◌⊕◌, Vector, Matrix, dot}
use Rattle.bits.specs.Kernels.{independent, InKernel, SameKernel, Spanned, Ranked, none, same, more}
use Rattle.bits.specs.Elimination.{LowRows, Settled}
use Rattle.bits.proofs.Sums.{xor_zero, xor_self, xor_same, and_no, and_yes, dot_right, dot_same, dot_none}
use Rattle.bits.proofs.Rows.{keeps_refl, keeps_trans}
use Rattle.bits.proofs.Decision.{independent_found, dependent_found}
use Rattle.bits.proofs.Selections.{padded, dot_padded, padded_below, one_at, dot_one_at, with_one, with_one_at, dot_with_one}

-- the unit vector with a one at place l is a sum of the first c columns
abbrev pub Reached : ℕ → ℕ → Matrix → ℕ → Type 0
Reached r c B l = (x : Vector) × ((i : ℕ) → i < r → dot c (B i) x ≡ eqb i l)

-- Before column c of the elimination that skips a column without a pivot: k columns had one
pub record RankPart (r n c k : ℕ) (A B : Matrix) : Type 0 where
  pub kernel : SameKernel r n A B
  pub low : LowRows r k c B
  pub reached : (l : ℕ) → l < k → Reached r c B l
  pub ranked : Ranked r A c k
  pub within : k ≤ r

pub span_moves : (r n c : ℕ) (A B : Matrix) → c < n → ((x : Vector) → InKernel r n A x → InKernel r n B x) → Spanned r c A → Spanned r c B
span_moves r n c A B l k s =
    let x : Vector = s.0 in
    let in_a : InKernel r n A (with_one c x) = λ i m. dot_with_one n c (A i) x l ∙ rw (s.1 i m) (xor_self (A i c)) in
    (x, λ i m. xor_same (dot c (B i) x) (B i c) (sym (dot_with_one n c (B i) x l) ∙ k (with_one c x) in_a i m))

not_spanned : (r k c p : ℕ) (B : Matrix) → LowRows r k c B → k ≤ p → p < r → B p c ≡ true → Spanned r c B → ⊥
not_spanned r k c p B low lk lp e s =
    both_ways (B p c) (sym (s.1 p lp) ∙ dot_none c (B p) s.0 (λ j m. rw (low p j lk lp m))) e

dot_scale : (n : ℕ) (b : Bool) (a y : Vector) → dot n a (λ j. b && y j) ≡ (b && dot n a y)
dot_scale n true a y = refl
dot_scale n false a y = dot_none n a (λ j. false) (λ j l. and_no (a j))

joined_bit : (i k : ℕ) (v : Vector) → ((ltb i k && v i) ⊕ (v k && eqb i k)) ≡ (ltb i (suc k) && v i)
joined_bit i k v =
    elim (cases_lt i k) [
      | inl l ↦ rw (lt-ltb i k l, lt-ltb i (suc k) (omega arith), ne_eqb i k (omega arith), and_no (v k)) (xor_zero (v i))
      | inr l ↦
          elim (cases_eq i k) [
            | inl e ↦ rw (e, le-ltb k k (omega arith), lt-ltb k (suc k) (omega arith), eq-eqb k k refl) (and_yes (v k))
            | inr d ↦ rw (le-ltb i k l, le-ltb i (suc k) (omega arith), ne_eqb i k d) (and_no (v k))
          ]
    ]

-- any vector that is 0 from k on is a sum of the columns that reach the first k unit vectors
combined : (r c : ℕ) (B : Matrix) (v : Vector) (k : ℕ) → ((l : ℕ) → l < k → Reached r c B l) → (x : Vector) × ((i : ℕ) → i < r → dot c (B i) x ≡ (ltb i k && v i))
combined r c B v zero h =
    (λ _. false, λ i l. dot_none c (B i) (λ _. false) (λ j m. and_no (B i j)) ∙ rw (le-ltb i 0 (omega arith)))
combined r c B v (suc k) h =
    let s : (x : Vector) × ((i : ℕ) → i < r → dot c (B i) x ≡ (ltb i k && v i)) = combined r c B v k (λ l m. h l (omega arith)) in
    let t : Reached r c B k = h k (omega arith) in (
      λ j. s.0 j ⊕ (v k && t.0 j),
      λ i l.
          dot_right c (B i) s.0 (λ j. v k && t.0 j)
          ∙ rw (dot_scale c (v k) (B i) t.0, s.1 i l, t.1 i l) (joined_bit i k v),
    )

spanned : (r c k : ℕ) (B : Matrix) → ((l : ℕ) → l < k → Reached r c B l) → ((i : ℕ) → k ≤ i → i < r → B i c ≡ false) → Spanned r c B
spanned r c k B h nought =
    let s : (x : Vector) × ((i : ℕ) → i < r → dot c (B i) x ≡ (ltb i k && B i c)) = combined r c B (λ i. B i c) k h in (
      s.0,
      λ i l.
          s.1 i l
          ∙ elim (cases_lt i k) [ inl m ↦ rw (lt-ltb i k m) | inr m ↦ rw (le-ltb i k m) (sym (nought i m l)) ],
    )

-- one column more
lift : (r c : ℕ) (B : Matrix) (l : ℕ) → Reached r c B l → Reached r (c + 1) B l
lift r c B l h = (padded c h.0, λ i m. dot_padded c (c + 1) (B i) h.0 (omega arith) ∙ h.1 i m)

ranked_next : (r : ℕ) (A : Matrix) (c k : ℕ) → Ranked r A (suc c) k → Ranked r A (c + 1) k
ranked_next r A c k h = rw (add-one c) h

pub rank_none : (r n : ℕ) (A : Matrix) → RankPart r n 0 0 A A
rank_none r n A =
    record {
      kernel = keeps_refl r n A;
      low = λ i j l m p. absurd (omega arith);
      reached = λ l m. absurd (omega arith);
      ranked = none;
      within = omega arith;
    }

pub rank_skip :
    (r n c k : ℕ) (A B : Matrix) → c < n → RankPart r n c k A B → ((i : ℕ) → k ≤ i → i < r → B i c ≡ false)
    → RankPart r n (c + 1) k A B
rank_skip r n c k A B l h nought =
    record {
      kernel = h.kernel;
      low =
          λ i j m p q. elim (cases_lt j c) [
            | inl s ↦ h.low i j m p s
            | inr s ↦ let e : j ≡ c = omega arith in rw e (nought i m p)
          ];
      reached = λ i m. lift r c B i (h.reached i m);
      ranked =
          ranked_next r A c k
          (same h.ranked (span_moves r n c B A l (λ x. (h.kernel x).1) (spanned r c k B h.reached nought)));
      within = h.within;
    }

pub rank_more :
    (r n c k p : ℕ) (A B C : Matrix) → c < n → k ≤ p → p < r → RankPart r n c k A B → B p c ≡ true → Settled r n k c B C
    → RankPart r n (c + 1) (k + 1) A C
rank_more r n c k p A B C l lk lp h e g =
    record {
      kernel = keeps_trans r n A B C h.kernel g.kept.kernel;
      low =
          λ i j m q s. elim (cases_lt j c) [
            | inl t ↦ g.kept.columns i j q t ∙ h.low i j (omega arith) q t
            | inr t ↦ let f : j ≡ c = omega arith in rw f (g.column i q ∙ ne_eqb i k (omega arith))
          ];
      reached = reached;
      ranked = ranked_next r A c (k + 1) (rw (add-one k) (more h.ranked fresh));
      within = omega arith;
    } where
      fresh : Spanned r c A → ⊥
      fresh s = not_spanned r k c p B h.low lk lp e (span_moves r n c A B l (λ x. (h.kernel x).0) s)

      old : (i : ℕ) → i < k → Reached r c C i
      old i m =
          let t : Reached r c B i = h.reached i m in
          (t.0, λ q s. dot_same c (C q) (B q) t.0 t.0 (λ j u. g.kept.columns q j s u) (λ j u. refl) ∙ t.1 q s)

      reached : (i : ℕ) → i < k + 1 → Reached r (c + 1) C i
      reached i m =
          elim (cases_lt i k) [
            | inl s ↦ lift r c C i (old i s)
            | inr s ↦
                let f : i ≡ k = omega arith in
                (one_at c, λ q u. dot_one_at (c + 1) c (C q) (omega arith) ∙ rw f (g.column q u))
          ]

pub ranked_le : {r : ℕ} {A : Matrix} {n k : ℕ} → Ranked r A n k → k ≤ n
ranked_le none = omega arith
ranked_le (same h s) = let l = ranked_le h in omega arith
ranked_le (more h s) = let l = ranked_le h in omega arith

-- the rank is one number
pub ranked_once : {r : ℕ} {A : Matrix} {n k l : ℕ} → Ranked r A n k → Ranked r A n l → k ≡ l
ranked_once none none = refl
ranked_once (same h s) (same g t) = ranked_once h g
ranked_once (same h s) (more g t) = absurd (t s)
ranked_once (more h s) (same g t) = absurd (s t)
ranked_once (more h s) (more g t) = ap suc (ranked_once h g)

last_zero : (b c : Bool) → (b ⊕ (c && false)) ≡ false → b ≡ false
last_zero b c e = sym (ap (λ t. b ⊕ t) (and_no c) ∙ xor_zero b) ∙ e

last_one : (b c : Bool) → (b ⊕ (c && true)) ≡ false → b ≡ c
last_one b c e = xor_same b c (sym (ap (λ t. b ⊕ t) (and_yes c)) ∙ e)

-- the rank is the number of columns: they are independent
pub full_rank : {r : ℕ} {A : Matrix} {n k : ℕ} → Ranked r A n k → k ≡ n → (z : Vector) → InKernel r n A z → (j : ℕ) → j < n → z j ≡ false
unfolding dot
full_rank none e z h j l = absurd (omega arith)
full_rank (same g s) e z h j l = let m = ranked_le g in absurd (omega arith)
full_rank {r} {A} (more {n = n} g s) e z h j l =
    elim (cases_Bool (z n)) [
      | inl t ↦ absurd (s (z, λ i m. last_one (dot n (A i) z) (A i n) (rw t at (h i m))))
      | inr f ↦
          let inner : InKernel r n A z = λ i m. last_zero (dot n (A i) z) (A i n) (rw f at (h i m)) in
          elim (cases_eq j n) [
            | inl q ↦ rw q f
            | inr d ↦ full_rank g (omega arith) z inner j (omega arith)
          ]
    ]

-- it is smaller: they are dependent
pub small_rank :
    {r : ℕ} {A : Matrix} {n k : ℕ} → Ranked r A n k → k < n → (z : Vector) × (InKernel r n A z × ((j : ℕ) × ((j < n) × (z j ≡ true))))
small_rank none l = absurd (omega arith)
small_rank {r} {A} (same {n = n} g s) l =
    (with_one n s.0, (inside, (n, (omega arith, with_one_at n s.0)))) where
      inside : InKernel r (suc n) A (with_one n s.0)
      inside i m = dot_with_one (suc n) n (A i) s.0 (omega arith) ∙ rw (s.1 i m) (xor_self (A i n))
small_rank {r} {A} (more {n = n} g s) l =
    let t : (z : Vector) × (InKernel r n A z × ((j : ℕ) × ((j < n) × (z j ≡ true)))) = small_rank g (omega arith) in (
      padded n t.0,
      (
        λ i m. dot_padded n (suc n) (A i) t.0 (omega arith) ∙ t.1.0 i m,
        (t.1.1.0, (let q = t.1.1.1.0 in omega arith, padded_below n t.0 t.1.1.0 t.1.1.1.0 ∙ t.1.1.1.1)),
      ),
    )

-- the rank of a square matrix says whether its columns are independent
pub square_rank : (r k : ℕ) (A : Matrix) → Ranked r A r k → eqb k r ≡ independent r A
square_rank r k A h =
    elim (cases_eq k r) [
      | inl e ↦ eq-eqb k r e ∙ sym (independent_found r A (λ z. full_rank h e z))
      | inr d ↦ let l = ranked_le h in ne_eqb k r d ∙ sym (dependent_found r A (small_rank h (omega arith)))
    ]
