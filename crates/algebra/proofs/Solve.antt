-- Identities of a commutative ring in which x + x is zero, decided: both sides are multiplied out and sorted by antt.
use Rattle.std.proofs.Common.{◌≡◌, ℕ, Bool, true, false, T, eqb, ltb, leb, List, [], ◌∷◌, get_or, sym, refl, ap, ◌∙◌, ap₂, eqb→eq}
use Rattle.algebra.specs.Ring.{Ring, RingLaws}
use Rattle.algebra.proofs.Rings.{zero_add, mul_zero, zero_mul, add_mul}

infixl 20 ◌⊕◌
infixl 30 ◌⊗◌
pub data Ex : Type 0 where
  v : ℕ → Ex
  o : Ex
  i : Ex
  ◌⊕◌ : Ex → Ex → Ex
  ◌⊗◌ : Ex → Ex → Ex

-- a product of variables, by number
abbrev pub Mono : Type 0
Mono = List ℕ

abbrev pub put : Bool → ℕ → ℕ → Mono → Mono → Mono
put true a b m rest = a ∷ b ∷ m
put false a b m rest = b ∷ rest

abbrev pub var_in : ℕ → Mono → Mono
var_in a [] = a ∷ []
var_in a (b ∷ m) = put (leb a b) a b m (var_in a m)

abbrev pub join : Mono → Mono → Mono
join [] n = n
join (a ∷ m) n = var_in a (join m n)

abbrev pub and : Bool → Bool → Bool
and true b = b
and false b = false

abbrev pub same : Mono → Mono → Bool
same [] [] = true
same [] (b ∷ n) = false
same (a ∷ m) [] = false
same (a ∷ m) (b ∷ n) = and (eqb a b) (same m n)

abbrev pub first : Bool → Bool → Bool → Bool
first true e r = true
first false true r = r
first false false r = false

abbrev pub before : Mono → Mono → Bool
before [] n = true
before (a ∷ m) [] = false
before (a ∷ m) (b ∷ n) = first (ltb a b) (eqb a b) (before m n)

-- the sum with one product more: it cancels its equal
abbrev pub place : Bool → Bool → Mono → Mono → List Mono → List Mono → List Mono
place true t m n p rest = p
place false true m n p rest = m ∷ n ∷ p
place false false m n p rest = n ∷ rest

abbrev pub mono_in : Mono → List Mono → List Mono
mono_in m [] = m ∷ []
mono_in m (n ∷ p) = place (same m n) (before m n) m n p (mono_in m p)

abbrev pub sum : List Mono → List Mono → List Mono
sum [] q = q
sum (m ∷ p) q = mono_in m (sum p q)

abbrev pub each : Mono → List Mono → List Mono
each m [] = []
each m (n ∷ q) = mono_in (join m n) (each m q)

abbrev pub prod : List Mono → List Mono → List Mono
prod [] q = []
prod (m ∷ p) q = sum (each m q) (prod p q)

abbrev pub normal : Ex → List Mono
normal (v a) = (a ∷ []) ∷ []
normal o = []
normal i = [] ∷ []
normal (a ⊕ b) = sum (normal a) (normal b)
normal (a ⊗ b) = prod (normal a) (normal b)

abbrev pub den : {A : Type 0} → Ring A → List A → Ex → A
den r ρ (v a) = get_or ρ a r.zero
den r ρ o = r.zero
den r ρ i = r.one
den r ρ (a ⊕ b) = r.add (den r ρ a) (den r ρ b)
den r ρ (a ⊗ b) = r.mul (den r ρ a) (den r ρ b)

and_left : (a b : Bool) → T (and a b) → T a
and_left true b t = tt
and_left false b t = t

and_right : (a b : Bool) → T (and a b) → T b
and_right true b t = t
and_right false b t = absurd t

same_eq : (m n : Mono) → T (same m n) → m ≡ n
same_eq [] [] t = refl
same_eq [] (b ∷ n) t = absurd t
same_eq (a ∷ m) [] t = absurd t
same_eq (a ∷ m) (b ∷ n) t = ap₂ (λ (x : ℕ) (y : Mono). x ∷ y) (eqb→eq a b (and_left (eqb a b) (same m n) t)) (same_eq m n (and_right (eqb a b) (same m n) t))

module _ {A : Type 0} {r : Ring A} (k : RingLaws r) (ρ : List A) where
  abbrev x : ℕ → A
  x a = get_or ρ a r.zero

  abbrev dm : Mono → A
  dm [] = r.one
  dm (a ∷ m) = r.mul (x a) (dm m)

  abbrev dp : List Mono → A
  dp [] = r.zero
  dp (m ∷ p) = r.add (dm m) (dp p)

  swap_mul : (a b c : A) → r.mul a (r.mul b c) ≡ r.mul b (r.mul a c)
  swap_mul a b c = sym (k.mul_assoc a b c) ∙ ap (λ (w : A). r.mul w c) (k.mul_comm a b) ∙ k.mul_assoc b a c

  swap_add : (a b c : A) → r.add a (r.add b c) ≡ r.add b (r.add a c)
  swap_add a b c = sym (k.add_assoc a b c) ∙ ap (λ (w : A). r.add w c) (k.add_comm a b) ∙ k.add_assoc b a c

  put_is : (t : Bool) (a b : ℕ) (m rest : Mono) → dm rest ≡ r.mul (x a) (dm m) → dm (put t a b m rest) ≡ r.mul (x a) (r.mul (x b) (dm m))
  put_is true a b m rest e = refl
  put_is false a b m rest e = ap (r.mul (x b)) e ∙ swap_mul (x b) (x a) (dm m)

  var_is : (a : ℕ) (m : Mono) → dm (var_in a m) ≡ r.mul (x a) (dm m)
  var_is a [] = refl
  var_is a (b ∷ m) = put_is (leb a b) a b m (var_in a m) (var_is a m)

  join_is : (m n : Mono) → dm (join m n) ≡ r.mul (dm m) (dm n)
  join_is [] n = sym (k.mul_comm r.one (dm n) ∙ k.mul_one (dm n))
  join_is (a ∷ m) n = var_is a (join m n) ∙ ap (r.mul (x a)) (join_is m n) ∙ sym (k.mul_assoc (x a) (dm m) (dm n))

  place_is : (s t : Bool) (m n : Mono) (p rest : List Mono) → (T s → m ≡ n) → dp rest ≡ r.add (dm m) (dp p) → dp (place s t m n p rest) ≡ r.add (dm m) (r.add (dm n) (dp p))
  place_is true t m n p rest q e =
      sym (sym (k.add_assoc (dm m) (dm n) (dp p)) ∙ ap (λ (w : Mono). r.add (r.add (dm m) (dm w)) (dp p)) (sym (q tt)) ∙ ap (λ (w : A). r.add w (dp p)) (k.add_self (dm m)) ∙ zero_add k (dp p))
  place_is false true m n p rest q e = refl
  place_is false false m n p rest q e = ap (r.add (dm n)) e ∙ swap_add (dm n) (dm m) (dp p)

  mono_is : (m : Mono) (p : List Mono) → dp (mono_in m p) ≡ r.add (dm m) (dp p)
  mono_is m [] = refl
  mono_is m (n ∷ p) = place_is (same m n) (before m n) m n p (mono_in m p) (same_eq m n) (mono_is m p)

  sum_is : (p q : List Mono) → dp (sum p q) ≡ r.add (dp p) (dp q)
  sum_is [] q = sym (zero_add k (dp q))
  sum_is (m ∷ p) q = mono_is m (sum p q) ∙ ap (r.add (dm m)) (sum_is p q) ∙ sym (k.add_assoc (dm m) (dp p) (dp q))

  each_is : (m : Mono) (q : List Mono) → dp (each m q) ≡ r.mul (dm m) (dp q)
  each_is m [] = sym (mul_zero k (dm m))
  each_is m (n ∷ q) = mono_is (join m n) (each m q) ∙ ap₂ r.add (join_is m n) (each_is m q) ∙ sym (k.mul_add (dm m) (dm n) (dp q))

  prod_is : (p q : List Mono) → dp (prod p q) ≡ r.mul (dp p) (dp q)
  prod_is [] q = sym (zero_mul k (dp q))
  prod_is (m ∷ p) q = sum_is (each m q) (prod p q) ∙ ap₂ r.add (each_is m q) (prod_is p q) ∙ sym (add_mul k (dm m) (dp p) (dp q))

  normal_is : (e : Ex) → dp (normal e) ≡ den r ρ e
  normal_is (v a) = k.add_zero (r.mul (x a) r.one) ∙ k.mul_one (x a)
  normal_is o = refl
  normal_is i = k.add_zero r.one
  normal_is (a ⊕ b) = sum_is (normal a) (normal b) ∙ ap₂ r.add (normal_is a) (normal_is b)
  normal_is (a ⊗ b) = prod_is (normal a) (normal b) ∙ ap₂ r.mul (normal_is a) (normal_is b)

  pub solve : (a b : Ex) → normal a ≡ normal b → den r ρ a ≡ den r ρ b
  solve a b e = sym (normal_is a) ∙ ap dp e ∙ normal_is b
