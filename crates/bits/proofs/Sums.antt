-- Laws of the sum of bits and of `dot`.
use Rattle.std.proofs.Common.{◌≡◌, ℕ, zero, suc, ◌+◌, ◌-◌, ◌<◌, Bool, true, false, ◌&&◌, eqb, sym, refl, ap, ◌∙◌, inl, inr, add-zero, add-suc, arith}
use Rattle.std.proofs.lemmas.Bool.{cases_eq, eq-eqb, ne_eqb, lt-ltb, le-ltb}
use Rattle.bits.specs.Vectors.{◌⊕◌, Vector, Matrix, dot, times, systematic}

pub xor_self : (a : Bool) → (a ⊕ a) ≡ false
xor_self true = refl
xor_self false = refl

pub xor_zero : (a : Bool) → (a ⊕ false) ≡ a
xor_zero true = refl
xor_zero false = refl

pub xor_comm : (a b : Bool) → (a ⊕ b) ≡ (b ⊕ a)
xor_comm true true = refl
xor_comm true false = refl
xor_comm false true = refl
xor_comm false false = refl

pub xor_assoc : (a b c : Bool) → ((a ⊕ b) ⊕ c) ≡ (a ⊕ (b ⊕ c))
xor_assoc true true true = refl
xor_assoc true true false = refl
xor_assoc true false c = refl
xor_assoc false b c = refl

-- a + b = 0 says a = b
pub xor_same : (a b : Bool) → (a ⊕ b) ≡ false → a ≡ b
xor_same true true e = refl
xor_same true false e = e
xor_same false true e = sym e
xor_same false false e = refl

pub xor_cross : (a b c d : Bool) → ((a ⊕ b) ⊕ (c ⊕ d)) ≡ ((a ⊕ c) ⊕ (b ⊕ d))
xor_cross false false c d = refl
xor_cross false true false d = refl
xor_cross false true true false = refl
xor_cross false true true true = refl
xor_cross true false false d = refl
xor_cross true false true false = refl
xor_cross true false true true = refl
xor_cross true true false false = refl
xor_cross true true false true = refl
xor_cross true true true false = refl
xor_cross true true true true = refl

pub and_xor_left : (a b x : Bool) → ((a ⊕ b) && x) ≡ ((a && x) ⊕ (b && x))
and_xor_left false b x = refl
and_xor_left true false true = refl
and_xor_left true false false = refl
and_xor_left true true true = refl
and_xor_left true true false = refl

pub and_xor_right : (a x y : Bool) → (a && (x ⊕ y)) ≡ ((a && x) ⊕ (a && y))
and_xor_right true x y = refl
and_xor_right false x y = refl

pub dot_left : (n : ℕ) (a b x : Vector) → dot n (λ j. a j ⊕ b j) x ≡ (dot n a x ⊕ dot n b x)
unfolding dot
dot_left zero a b x = refl
dot_left (suc n) a b x =
    rw (dot_left n a b x, and_xor_left (a n) (b n) (x n)) (xor_cross (dot n a x) (dot n b x) (a n && x n) (b n && x n))

pub dot_right : (n : ℕ) (a x y : Vector) → dot n a (λ j. x j ⊕ y j) ≡ (dot n a x ⊕ dot n a y)
unfolding dot
dot_right zero a x y = refl
dot_right (suc n) a x y =
    rw (dot_right n a x y, and_xor_right (a n) (x n) (y n)) (xor_cross (dot n a x) (dot n a y) (a n && x n) (a n && y n))

-- only the places below n count
pub dot_same : (n : ℕ) (a b x y : Vector) → ((j : ℕ) → j < n → a j ≡ b j) → ((j : ℕ) → j < n → x j ≡ y j) → dot n a x ≡ dot n b y
unfolding dot
dot_same zero a b x y h k = refl
dot_same (suc n) a b x y h k =
    rw (dot_same n a b x y (λ j l. h j (omega arith)) (λ j l. k j (omega arith)), h n (omega arith), k n (omega arith))

pub and_no : (a : Bool) → (a && false) ≡ false
and_no true = refl
and_no false = refl

pub and_yes : (a : Bool) → (a && true) ≡ a
and_yes true = refl
and_yes false = refl

pub dot_none : (n : ℕ) (a x : Vector) → ((j : ℕ) → j < n → (a j && x j) ≡ false) → dot n a x ≡ false
unfolding dot
dot_none zero a x h = refl
dot_none (suc n) a x h = rw (dot_none n a x (λ j l. h j (omega arith)), h n (omega arith))

-- a product that is 0 but at i
pub dot_one : (n i : ℕ) (a x : Vector) → i < n → ((j : ℕ) → j < n → (j ≡ i → ⊥) → (a j && x j) ≡ false) → dot n a x ≡ (a i && x i)
unfolding dot
dot_one zero i a x l h = absurd (omega arith)
dot_one (suc n) i a x l h =
    elim (cases_eq i n) [
      | inl e ↦ rw (dot_none n a x (λ j m. h j (omega arith) (λ d. omega arith)), e)
      | inr ne ↦
          rw (dot_one n i a x (omega arith) (λ j m d. h j (omega arith) d), h n (omega arith) (λ d. ne (sym d)))
          (xor_zero (a i && x i))
    ]

-- a row of the unit matrix
pub dot_unit : (n i : ℕ) (a x : Vector) → i < n → ((j : ℕ) → j < n → a j ≡ eqb i j) → dot n a x ≡ x i
dot_unit n i a x l h =
    dot_one n i a x l (λ j m d. rw (h j m, ne_eqb i j (λ e. d (sym e))))
    ∙ rw (h i l, eq-eqb i i refl)

-- only the products count
pub dot_products : (n : ℕ) (a b x y : Vector) → ((j : ℕ) → j < n → (a j && x j) ≡ (b j && y j)) → dot n a x ≡ dot n b y
unfolding dot
dot_products zero a b x y h = refl
dot_products (suc n) a b x y h = rw (dot_products n a b x y (λ j l. h j (omega arith)), h n (omega arith))

-- the first n places, and the m after them
pub dot_split : (n m : ℕ) (a x : Vector) → dot (n + m) a x ≡ (dot n a x ⊕ dot m (λ j. a (n + j)) (λ j. x (n + j)))
unfolding dot
dot_split n zero a x = rw (add-zero n) (sym (xor_zero (dot n a x)))
dot_split n (suc m) a x =
    rw (add-suc n m, dot_split n m a x)
    (xor_assoc (dot n a x) (dot m (λ j. a (n + j)) (λ j. x (n + j))) (a (n + m) && x (n + m)))

-- [I | M] · x is the front of x and M times the rest
pub in_two_parts :
    (r k : ℕ) (M : Matrix) (x : Vector) (i : ℕ) → i < r
    → times (r + k) (systematic r M) x i ≡ (x i ⊕ dot k (M i) (λ j. x (r + j)))
unfolding systematic
in_two_parts r k M x i l =
    dot_split r k (systematic r M i) x
    ∙ (rw (dot_unit r i (systematic r M i) x l (λ j m. rw (lt-ltb j r m)))
    (ap (λ b. x i ⊕ b) (dot_same k (λ j. systematic r M i (r + j)) (M i) (λ j. x (r + j)) (λ j. x (r + j)) rest (λ j m. refl)))) where
      rest : (j : ℕ) → j < k → systematic r M i (r + j) ≡ M i j
      rest j m = let e : r + j - r ≡ j = omega arith in rw (le-ltb (r + j) r (omega arith), e)
