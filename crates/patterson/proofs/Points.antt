-- Lists of points: what holds at each, appended lists, and a list parted by a test.
use mathlib.Core.Path.{◌≡◌, refl, sym, subst}
use mathlib.Core.List.{List, [], ◌∷◌, ◌++◌}
use mathlib.Core.Logic.{◌⊎◌, inl, inr}
use Prim.Native.Nat.{◌+◌}
use native.Mathlib.Omega.{arith}
use lib.ListN.{length, length-append}
use Rattle.patterson.specs.Points.{In, Distinct}

-- P holds at each point of the list
abbrev pub Each : {A : Type 0} → (A → Type 0) → List A → Type 0
Each P [] = Unit {0}
Each P (x ∷ xs) = P x × Each P xs

module _ {A : Type 0} where
  pub each_of : (P : A → Type 0) (xs : List A) → ((x : A) → In x xs → P x) → Each P xs
  each_of P [] h = tt
  each_of P (y ∷ ys) h = (h y (inl refl), each_of P ys (λ x m. h x (inr m)))

  pub in_append : (x : A) (xs ys : List A) → In x (xs ++ ys) → In x xs ⊎ In x ys
  in_append x [] ys m = inr m
  in_append x (z ∷ xs) ys m =
      elim m [ inl e ↦ inl (inl e) | inr n ↦ elim (in_append x xs ys n) [ inl a ↦ inl (inr a) | inr b ↦ inr b ] ]

  pub distinct_append : (xs ys : List A) → Distinct xs → Distinct ys → ((x : A) → In x xs → In x ys → ⊥) → Distinct (xs ++ ys)
  distinct_append [] ys d e h = e
  distinct_append (x ∷ xs) ys d e h = (
    λ m. elim (in_append x xs ys m) [ inl a ↦ d.0 a | inr b ↦ h x (inl refl) b ],
    distinct_append xs ys d.1 e (λ y a b. h y (inr a) b),
  )

  pub in_or_not : ((x y : A) → Dec (x ≡ y)) → (x : A) (xs : List A) → Dec (In x xs)
  in_or_not dec x [] = no (λ m. m)
  in_or_not dec x (y ∷ ys) =
      elim (dec x y) [
        | yes e ↦ yes (inl e)
        | no n ↦ elim (in_or_not dec x ys) [ yes m ↦ yes (inr m) | no h ↦ no (λ m. elim m [ inl e ↦ n e | inr b ↦ h b ]) ]
      ]

-- the points that pass a test, and the others
pub record Parted {A : Type 0} (P : A → Type 0) (xs : List A) : Type 0 where
  pub pass : List A
  pub fail : List A
  pub count : length pass + length fail ≡ length xs
  pub passed : (x : A) → In x pass → P x
  pub failed : (x : A) → In x fail → P x → ⊥
  pub pass_in : (x : A) → In x pass → In x xs
  pub fail_in : (x : A) → In x fail → In x xs
  pub pass_distinct : Distinct pass
  pub fail_distinct : Distinct fail

module _ {A : Type 0} (P : A → Type 0) (test : (x : A) → Dec (P x)) where
  one_more : (x : A) (xs : List A) → (In x xs → ⊥) → Parted P xs → Dec (P x) → Parted P (x ∷ xs)
  one_more x xs n r (yes h) = record {
    pass = x ∷ r.pass;
    fail = r.fail;
    count = omega (arith, r.count);
    passed = λ y m. elim m [ inl e ↦ subst P (sym e) h | inr a ↦ r.passed y a ];
    failed = r.failed;
    pass_in = λ y m. elim m [ inl e ↦ inl e | inr a ↦ inr (r.pass_in y a) ];
    fail_in = λ y m. inr (r.fail_in y m);
    pass_distinct = (λ m. n (r.pass_in x m), r.pass_distinct);
    fail_distinct = r.fail_distinct;
  }
  one_more x xs n r (no h) = record {
    pass = r.pass;
    fail = x ∷ r.fail;
    count = omega (arith, r.count);
    passed = r.passed;
    failed = λ y m p. elim m [ inl e ↦ h (subst P e p) | inr a ↦ r.failed y a p ];
    pass_in = λ y m. inr (r.pass_in y m);
    fail_in = λ y m. elim m [ inl e ↦ inl e | inr a ↦ inr (r.fail_in y a) ];
    pass_distinct = r.pass_distinct;
    fail_distinct = (λ m. n (r.fail_in x m), r.fail_distinct);
  }

  pub part : (xs : List A) → Distinct xs → Parted P xs
  part [] d = record {
    pass = [];
    fail = [];
    count = refl;
    passed = λ x m. absurd m;
    failed = λ x m p. m;
    pass_in = λ x m. m;
    fail_in = λ x m. m;
    pass_distinct = tt;
    fail_distinct = tt;
  }
  part (x ∷ xs) d = one_more x xs d.0 (part xs d.1) (test x)

-- what fails one test, parted by a second one that no point passes with the first: all points, parted by the second
abbrev pub regroup : {A : Type 0} (P Q : A → Type 0) (xs : List A) (z : Parted P xs) (w : Parted Q z.fail) → ((x : A) → In x xs → P x → Q x → ⊥) → Parted Q xs
regroup P Q xs z w h = record {
  pass = w.pass;
  fail = z.pass ++ w.fail;
  count = omega (arith, z.count, w.count, length-append z.pass w.fail);
  passed = w.passed;
  failed = λ x m q. elim (in_append x z.pass w.fail m) [ inl a ↦ h x (z.pass_in x a) (z.passed x a) q | inr b ↦ w.failed x b q ];
  pass_in = λ x m. z.fail_in x (w.pass_in x m);
  fail_in = λ x m. elim (in_append x z.pass w.fail m) [ inl a ↦ z.pass_in x a | inr b ↦ z.fail_in x (w.fail_in x b) ];
  pass_distinct = w.pass_distinct;
  fail_distinct = distinct_append z.pass w.fail z.pass_distinct w.fail_distinct (λ x a b. z.failed x (w.fail_in x b) (z.passed x a));
}
