-- Linear algebra over the field of two elements, by kernels: what row operations keep, the reduced form, the rank.
use Rattle.std.specs.Prelude.{◌≡◌, ℕ, zero, suc, ◌+◌, ◌<◌, ◌≤◌, Bool, true, false, not, ◌&&◌, ◌||◌, ◌==◌, nat_eq}
use Rattle.bits.specs.Vectors.{◌⊕◌, Vector, Matrix, dot, times, systematic, weight}

-- x is in the kernel of A, of r rows and n columns
abbrev pub InKernel : ℕ → ℕ → Matrix → Vector → Type 0
InKernel r n A x = (i : ℕ) → i < r → dot n (A i) x ≡ false

abbrev pub SameKernel : ℕ → ℕ → Matrix → Matrix → Type 0
SameKernel r n A B = (x : Vector) → (InKernel r n A x → InKernel r n B x) × (InKernel r n B x → InKernel r n A x)

-- the same rows and columns
abbrev pub Same : ℕ → ℕ → Matrix → Matrix → Type 0
Same r n A B = (i j : ℕ) → i < r → j < n → B i j ≡ A i j

-- the first c columns of the r rows are those of the unit matrix
abbrev pub UnitColumns : ℕ → ℕ → Matrix → Type 0
UnitColumns r c B = (i j : ℕ) → i < r → j < c → B i j ≡ (i == j)

-- the first r columns of the r rows are independent: only 0 selects them to 0
abbrev pub Independent : ℕ → Matrix → Type 0
Independent r A = (z : Vector) → InKernel r r A z → (k : ℕ) → k < r → z k ≡ false

-- some vector that is not 0 selects them to 0
abbrev pub Dependent : ℕ → Matrix → Type 0
Dependent r A = (z : Vector) × (InKernel r r A z × ((k : ℕ) × ((k < r) × (z k ≡ true))))

-- some vector without ones from n on passes a test
unfoldable pub some_vector : ℕ → (Vector → Bool) → Bool
some_vector zero p = p (λ _. false)
some_vector (suc n) p = some_vector n p || some_vector n (λ z. p (λ j. z j ⊕ nat_eq j n))

-- z is not 0, and selects the first r columns of the r rows to 0
unfoldable pub relates : ℕ → Matrix → Vector → Bool
relates r A z = not (weight r z == 0) && weight r (times r A z) == 0

-- whether the first r columns of the r rows are independent
unfoldable pub independent : ℕ → Matrix → Bool
independent r A = not (some_vector r (relates r A))

-- B has the kernel of A, of r rows and n columns, and begins with the unit matrix
abbrev pub Reduced : ℕ → ℕ → Matrix → Matrix → Type 0
Reduced r n A B = (r ≤ n) × (SameKernel r n A B × UnitColumns r r B)

-- S⁻¹ · B = A, where S⁻¹ is the first r columns of A, and A and B have n columns
abbrev pub Back : ℕ → ℕ → Matrix → Matrix → Type 0
Back r n A B = (i j : ℕ) → i < r → j < n → times r A (λ k. B k j) i ≡ A i j

-- [I | M] is the reduced row echelon form of A, of r rows and r + k columns. S⁻¹ is the first r columns of A.
pub record Echelon (r k : ℕ) (A M : Matrix) : Type 0 where
  -- row operations lead from the one to the other
  pub kernel : SameKernel r (r + k) A (systematic r M)
  -- S⁻¹ · z = 0 for z = 0 alone
  pub injective : Independent r A
  -- S⁻¹ · [I | M] = A
  pub back : Back r (r + k) A (systematic r M)
  -- S⁻¹ · ([I | M] · x) = A · x
  pub products : (x : Vector) (i : ℕ) → i < r → times r A (times (r + k) (systematic r M) x) i ≡ times (r + k) A x i
  -- what S⁻¹ takes to A · x is [I | M] · x
  pub bodies : (b x : Vector) → ((i : ℕ) → i < r → times r A b i ≡ times (r + k) A x i) → (i : ℕ) → i < r → b i ≡ times (r + k) (systematic r M) x i
  -- M is the only matrix with S⁻¹ · [I | M] = A
  pub only : (N : Matrix) → Back r (r + k) A (systematic r N) → Same r k M N

-- the first n columns of A select to column n: it is a sum of earlier columns
abbrev pub Spanned : ℕ → ℕ → Matrix → Type 0
Spanned r n A = (x : Vector) × ((i : ℕ) → i < r → dot n (A i) x ≡ A i n)

-- Ranked r A n k: k of the first n columns are no sum of earlier ones
pub data Ranked (r : ℕ) (A : Matrix) : ℕ → ℕ → Type 0 where
  none : Ranked r A 0 0
  same : {n k : ℕ} → Ranked r A n k → Spanned r n A → Ranked r A (suc n) k
  more : {n k : ℕ} → Ranked r A n k → (Spanned r n A → ⊥) → Ranked r A (suc n) (suc k)

-- The laws, over all matrices A of r rows and n columns.

-- S⁻¹ · (B · x) = A · x
abbrev pub ProductBack : Type 0
ProductBack =
    (r n : ℕ) (A B : Matrix) → Reduced r n A B
    → (x : Vector) (i : ℕ) → i < r → times r A (times n B x) i ≡ times n A x i

abbrev pub ColumnBack : Type 0
ColumnBack = (r n : ℕ) (A B : Matrix) → Reduced r n A B → Back r n A B

abbrev pub Injective : Type 0
Injective = (r n : ℕ) (A B : Matrix) → Reduced r n A B → Independent r A

-- B is the only matrix whose columns S⁻¹ takes to those of A, and so the only one of this form with A's kernel
abbrev pub OnlyOne : Type 0
OnlyOne = (r n : ℕ) (A B C : Matrix) → Reduced r n A B → Back r n A C → Same r n B C

-- if S⁻¹ takes a vector to A · x, the vector is B · x
abbrev pub OnlyBody : Type 0
OnlyBody =
    (r n : ℕ) (A B : Matrix) → Reduced r n A B → (b x : Vector)
    → ((i : ℕ) → i < r → times r A b i ≡ times n A x i) → (i : ℕ) → i < r → b i ≡ times n B x i

-- the first c columns are done, and column c has no one from row c on
abbrev pub NoPivot : Type 0
NoPivot =
    (r n c : ℕ) (A B : Matrix) → r ≤ n → c < r → SameKernel r n A B → UnitColumns r c B
    → ((i : ℕ) → c ≤ i → i < r → B i c ≡ false) → Dependent r A

abbrev pub NotBoth : Type 0
NotBoth = (r : ℕ) (A : Matrix) → Dependent r A → Independent r A → ⊥

-- the test of independence says which it is
abbrev pub Decides : Type 0
Decides = (r : ℕ) (A : Matrix) → (Independent r A → independent r A ≡ true) × (Dependent r A → independent r A ≡ false)

-- and looks at the first r rows and columns alone
abbrev pub FrontDecides : Type 0
FrontDecides = (r : ℕ) (A B : Matrix) → Same r r A B → independent r A ≡ independent r B

-- the rank is one number; it is the number of columns exactly if they are independent
abbrev pub RankOnce : Type 0
RankOnce = (r n k l : ℕ) (A : Matrix) → Ranked r A n k → Ranked r A n l → k ≡ l

abbrev pub FullRank : Type 0
FullRank = (r : ℕ) (A : Matrix) → Ranked r A r r → Independent r A

abbrev pub SmallRank : Type 0
SmallRank = (r k : ℕ) (A : Matrix) → Ranked r A r k → k < r → Dependent r A
