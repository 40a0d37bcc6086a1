-- The decoding theorem, in parts. Each is said of one field, and `Over` of every field with given elements.
use Rattle.std.specs.Prelude.{◌≡◌, Bool, List, ℕ, suc, ◌-◌, ◌/◌, ◌≤◌, ◌<◌, length}
use Rattle.std.proofs.Math.Option.{Option, none, some}
use Rattle.algebra.specs.Field.{Ops, Roots}
use Rattle.algebra.specs.Poly.{eval}
use Rattle.patterson.specs.Points.{In}
use Rattle.patterson.specs.Polys.{Poly, Vanishes, Splits}
use Rattle.patterson.specs.Code.{Perfect, GoppaCode}
use Rattle.patterson.specs.Locator.{inverse_sum, from_parts}
use Rattle.patterson.specs.Vectors.{chosen, marks}
use Rattle.patterson.specs.Columns.{column, columns_sum}
use Rattle.patterson.specs.Syndrome.{ErrorPoints, KeySolution, KeyEquation}
use Rattle.patterson.specs.Errors.{ErrorVector, Decodes, ErrorValues, Answers}
use Rattle.patterson.specs.Euclid.{EuclidState, CommonDivisor}
use Rattle.patterson.specs.SquareRoot.{even_roots, odd_roots}
use Rattle.patterson.specs.Decoder.{Prepared, RestZeros, RootOf, Stopped, candidate, ZeroTest}

-- in every field of characteristic 2 with square roots whose elements are those of A
abbrev pub Over : (A : Type 0) → (Ops A → Type 0) → Type 0
Over A P = (f : Ops A) → Perfect f → P f

-- the column of a point of the support has at each zero of g the value of the inverse of X + α ..
abbrev pub ColumnValue : {A : Type 0} → Ops A → Type 0
ColumnValue {A} f = (t : ℕ) (g zs sup : List A) → GoppaCode f t (eval f g) zs sup → length g ≤ suc t
    → (α β : A) → In α sup → In β zs → f.mul (f.add β α) (eval f (column f g α) β) ≡ f.one

-- .. so the syndrome of a vector has there the sum of the inverses over the points that the vector chooses
abbrev pub SyndromeValue : {A : Type 0} → Ops A → Type 0
SyndromeValue {A} f = (t : ℕ) (g zs sup : List A) → GoppaCode f t (eval f g) zs sup → length g ≤ suc t
    → (e : List Bool) (β : A) → In β zs → eval f (columns_sum f g e sup) β ≡ inverse_sum f (chosen e sup) β

-- the two parts of the locator of t points solve the key equation of their syndrome, within the bounds on the degrees
abbrev pub SolvesKeyEquation : {A : Type 0} → Ops A → Type 0
SolvesKeyEquation {A} f = (t : ℕ) (s : A → A) (zs es : List A) → ErrorPoints f t s zs es → KeySolution f t s zs es

-- and every solution within the bounds locates the points, and no others, where its b is not zero everywhere
abbrev pub AnySolution : {A : Type 0} → Ops A → Type 0
AnySolution {A} f = (t : ℕ) (g s : A → A) (zs es : List A) → Splits f t g zs → ErrorPoints f t s zs es
    → (a b : A → A) → Poly f (suc (t / 2)) a → Poly f (suc t / 2) b → KeyEquation f s zs a b → (Vanishes f b → ⊥)
    → (x : A) → (from_parts f a b x ≡ f.zero → In x es) × (In x es → from_parts f a b x ≡ f.zero)

-- a syndrome has one vector of weight t at most
abbrev pub OneVector : {A : Type 0} → Ops A → Type 0
OneVector {A} f = (t : ℕ) (g s : A → A) (zs sup : List A) → GoppaCode f t g zs sup
    → (e d : List Bool) → ErrorValues f t s zs sup e → ErrorValues f t s zs sup d → e ≡ d

-- where s is zero at all zeros of g, no vector has it
abbrev pub ZeroSyndrome : {A : Type 0} → Ops A → Type 0
ZeroSyndrome {A} f = (t : ℕ) → 1 ≤ t → (g s : A → A) (zs sup : List A) → GoppaCode f t g zs sup
    → ((z : A) → In z zs → s z ≡ f.zero) → Answers f t s zs sup none

-- Euclid's rule begins with p and q, where the degree of q is the lower one ..
abbrev pub EuclidStart : {A : Type 0} → Ops A → Type 0
EuclidStart {A} f = (d : ℕ) (p q : A → A) → Poly f (suc d) p → Poly f d q → EuclidState f d p q d p q (λ x. f.zero) (λ x. f.one)

-- .. a division keeps what it says ..
abbrev pub EuclidStep : {A : Type 0} → Ops A → Type 0
EuclidStep {A} f = (d : ℕ) (p q : A → A) (n : ℕ) (older newer old_factor factor : A → A) → EuclidState f d p q n older newer old_factor factor
    → (m : ℕ) (quotient rest next : A → A) → m ≤ n → Poly f (suc (n - m)) quotient → Poly f (suc m) newer → Poly f m rest
    → ((x : A) → older x ≡ f.add (f.mul (quotient x) (newer x)) (rest x))
    → ((x : A) → next x ≡ f.add (old_factor x) (f.mul (quotient x) (factor x)))
    → EuclidState f d p q m newer rest factor next

-- .. and when nothing is left, the last remainder is the common divisor of p and q
abbrev pub EuclidEnd : {A : Type 0} → Ops A → Type 0
EuclidEnd {A} f = (d : ℕ) (p q : A → A) (zs : List A) → Splits f d p zs
    → (n : ℕ) (older newer old_factor factor : A → A) → EuclidState f d p q n older newer old_factor factor
    → Vanishes f newer → CommonDivisor f d p q zs n older

-- where q is zero at no zero of p, a constant remainder gives the inverse of q at these
abbrev pub EuclidInverse : {A : Type 0} → Ops A → Type 0
EuclidInverse {A} f = (d : ℕ) (p q : A → A) (zs : List A) → Splits f d p zs → ((z : A) → In z zs → q z ≡ f.zero → ⊥)
    → (n : ℕ) (older newer old_factor factor : A → A) → EuclidState f d p q n older newer old_factor factor → 0 < n → Poly f 1 newer
    → (z : A) → p z ≡ f.zero → f.mul (f.mul (f.inv (newer f.zero)) (factor z)) (q z) ≡ f.one

-- the zeros of g fall into n1 where s is zero, n2 where v is zero, and those of g12 ..
abbrev pub HasRestZeros : {A : Type 0} → Ops A → Type 0
HasRestZeros {A} f = (t : ℕ) (g s v : A → A) (zs : List A) → Splits f t g zs
    → (n1 n2 : ℕ) (g1 g2 s1 v2 g12 : A → A) → Prepared f t g s v zs n1 n2 g1 g2 s1 v2 g12 → RestZeros f t s v zs n1 n2 g12

-- .. at which g12 is zero, and g2·s1 is not
abbrev pub Invertible : {A : Type 0} → Ops A → Type 0
Invertible {A} f = (t : ℕ) (g s v : A → A) (zs : List A) → Splits f t g zs
    → (n1 n2 : ℕ) (g1 g2 s1 v2 g12 : A → A) → Prepared f t g s v zs n1 n2 g1 g2 s1 v2 g12
    → (z : A) → In z zs → (s z ≡ f.zero → ⊥) → (v z ≡ f.zero → ⊥) → (g12 z ≡ f.zero) × (f.mul (g2 z) (s1 z) ≡ f.zero → ⊥)

-- a root of the value of p at x: w is a root of x
abbrev pub SquareRootValue : {A : Type 0} → Ops A → Type 0
SquareRootValue {A} f = (r : Roots f) (p : List A) (x w : A) → f.mul w w ≡ x
    → (y : A) → y ≡ f.add (eval f (even_roots r p) x) (f.mul w (eval f (odd_roots r p) x)) → f.mul y y ≡ eval f p x

-- a root y of g1·v2 times the inverse of g2·s1 is the one that Euclid's rule is to begin with
abbrev pub KeyRoot : {A : Type 0} → Ops A → Type 0
KeyRoot {A} f = (s v : A → A) (zs : List A) (g1 g2 s1 v2 inverse u y : A → A)
    → ((z : A) → In z zs → (s z ≡ f.zero → ⊥) → (v z ≡ f.zero → ⊥) → f.mul (inverse z) (f.mul (g2 z) (s1 z)) ≡ f.one)
    → ((z : A) → In z zs → (s z ≡ f.zero → ⊥) → (v z ≡ f.zero → ⊥) → u z ≡ f.mul (inverse z) (f.mul (g1 z) (v2 z)))
    → ((z : A) → In z zs → (s z ≡ f.zero → ⊥) → (v z ≡ f.zero → ⊥) → f.mul (y z) (y z) ≡ u z)
    → RootOf f s v zs g1 g2 s1 v2 y

-- if a vector of weight t has the syndrome s, then s is zero at less than half of the zeros of g, and v = 1 + X·s at half of them at most
abbrev pub Bounds : {A : Type 0} → Ops A → Type 0
Bounds {A} f = (t : ℕ) → 2 ≤ t → (g s v : A → A) (zs sup : List A) → GoppaCode f t g zs sup
    → (n1 n2 : ℕ) (g1 g2 s1 v2 g12 : A → A) → Prepared f t g s v zs n1 n2 g1 g2 s1 v2 g12
    → (e : List Bool) → ErrorValues f t s zs sup e → (n1 < suc t / 2) × (n2 ≤ t / 2)

-- the decoder is complete: if a vector of weight t has the syndrome s, then the zeros of the candidate in the support mark it
abbrev pub Complete : {A : Type 0} → Ops A → Type 0
Complete {A} f = (t : ℕ) → 2 ≤ t → (g s v : A → A) (zs sup : List A) → GoppaCode f t g zs sup
    → (n1 n2 : ℕ) (g1 g2 s1 v2 g12 a b : A → A)
    → Prepared f t g s v zs n1 n2 g1 g2 s1 v2 g12 → Stopped f t s v zs n1 n2 g1 g2 s1 v2 g12 a b
    → (m : A → Bool) → ZeroTest f (candidate f g1 g2 a b) sup m
    → (e : List Bool) → ErrorValues f t s zs sup e → marks m sup ≡ e

-- and sound: a vector that has weight t and the syndrome s is the answer ..
abbrev pub Sound : {A : Type 0} → Ops A → Type 0
Sound {A} f = (t : ℕ) (g s : A → A) (zs sup : List A) → GoppaCode f t g zs sup
    → (e : List Bool) → ErrorValues f t s zs sup e → Answers f t s zs sup (some e)

-- .. and where the vector of the candidate's zeros has not both, there is none
abbrev pub Refuses : {A : Type 0} → Ops A → Type 0
Refuses {A} f = (t : ℕ) → 2 ≤ t → (g s v : A → A) (zs sup : List A) → GoppaCode f t g zs sup
    → (n1 n2 : ℕ) (g1 g2 s1 v2 g12 a b : A → A)
    → Prepared f t g s v zs n1 n2 g1 g2 s1 v2 g12 → Stopped f t s v zs n1 n2 g1 g2 s1 v2 g12 a b
    → (m : A → Bool) → ZeroTest f (candidate f g1 g2 a b) sup m
    → (ErrorValues f t s zs sup (marks m sup) → ⊥) → Answers f t s zs sup none

-- an answer by values at the zeros of g is the answer by coefficients
abbrev pub ByCoefficients : {A : Type 0} → Ops A → Type 0
ByCoefficients {A} f = (t : ℕ) (g s zs sup : List A) → GoppaCode f t (eval f g) zs sup → length g ≤ suc t → length s ≤ t
    → (r : Option (List Bool)) → Answers f t (eval f s) zs sup r → Decodes f g t s sup r

-- the whole, by coefficients: the vector of the candidate's zeros is the answer where it has weight t and the syndrome s, and otherwise there is none
abbrev pub Decoding : {A : Type 0} → Ops A → Type 0
Decoding {A} f = (t : ℕ) → 2 ≤ t → (g s : List A) (v : A → A) (zs sup : List A) → GoppaCode f t (eval f g) zs sup → length g ≤ suc t → length s ≤ t
    → (n1 n2 : ℕ) (g1 g2 s1 v2 g12 a b : A → A)
    → Prepared f t (eval f g) (eval f s) v zs n1 n2 g1 g2 s1 v2 g12 → Stopped f t (eval f s) v zs n1 n2 g1 g2 s1 v2 g12 a b
    → (m : A → Bool) → ZeroTest f (candidate f g1 g2 a b) sup m
    → (ErrorVector f g t s sup (marks m sup) → Decodes f g t s sup (some (marks m sup)))
    × ((ErrorVector f g t s sup (marks m sup) → ⊥) → Decodes f g t s sup none)

-- and where the bounds do not hold, there is none
abbrev pub OutOfBounds : {A : Type 0} → Ops A → Type 0
OutOfBounds {A} f = (t : ℕ) → 2 ≤ t → (g s : List A) (v : A → A) (zs sup : List A) → GoppaCode f t (eval f g) zs sup → length g ≤ suc t → length s ≤ t
    → (n1 n2 : ℕ) (g1 g2 s1 v2 g12 : A → A) → Prepared f t (eval f g) (eval f s) v zs n1 n2 g1 g2 s1 v2 g12
    → ((n1 < suc t / 2) × (n2 ≤ t / 2) → ⊥) → Decodes f g t s sup none
