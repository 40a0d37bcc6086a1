-- A polynomial from its two parts, even² + X·odd², by its coefficients and by its values.
use Rattle.std.proofs.Common.{◌≡◌, ℕ, zero, suc, ◌+◌, ◌*◌, ◌≤◌, List, [], ◌∷◌, map, sym, refl, ap, ◌∙◌, ap₂, arith}
use Rattle.algebra.specs.Field.{Ops, Laws, Places}
use Rattle.algebra.specs.Ring.{ring_of}
use Rattle.algebra.specs.Poly.{eval}
use Rattle.algebra.specs.Series.{Series, tail, ser, Below}
use Rattle.algebra.proofs.Rings.{ring_laws}
use Rattle.algebra.proofs.Eval.{eval_same}
use Rattle.algebra.proofs.Solve.{v, o, ◌⊕◌, ◌⊗◌, solve}
use Rattle.polys.specs.Coefs.{coefs}
use Rattle.polys.specs.Values.{value}
use Rattle.polys.proofs.Lists.{coefs_map}
use Rattle.polys.proofs.Bridge.{front, front_is}
use Rattle.patterson.specs.Locator.{from_parts}
use Rattle.patterson.proofs.Elements.{square_zero}

-- the first 2·n coefficients
abbrev pairs : {A : Type 0} → ℕ → Series A → List A
pairs zero p = []
pairs (suc n) p = p 0 ∷ p 1 ∷ pairs n (tail (tail p))

module _ {A : Type 0} {f : Ops A} (k : Laws f) where
  pairs_is : (n : ℕ) (p : Series A) → Below f (2 * n) p → (j : ℕ) → ser (ring_of f) (pairs n p) j ≡ p j
  pairs_is zero p u j = sym (u j (omega arith))
  pairs_is (suc n) p u zero = refl
  pairs_is (suc n) p u (suc zero) = refl
  pairs_is (suc n) p u (suc (suc j)) = pairs_is n (tail (tail p)) (λ x h. u (suc (suc x)) (omega arith)) j

  -- the coefficients of p are the squares of those of a and b, in turn
  pairs_value : (n : ℕ) (p a b : Series A) → ((j : ℕ) → f.mul (a j) (a j) ≡ p (2 * j)) → ((j : ℕ) → f.mul (b j) (b j) ≡ p (2 * j + 1))
      → (x : A) → eval f (pairs n p) x ≡ from_parts f (eval f (front n a)) (eval f (front n b)) x
  pairs_value zero p a b ha hb x = solve (ring_laws k) (x ∷ []) o ((o ⊗ o) ⊕ (v 0 ⊗ (o ⊗ o))) refl
  pairs_value (suc n) p a b ha hb x =
      let two : (j : ℕ) → 2 * suc j ≡ suc (suc (2 * j)) = λ j. omega arith in
      let three : (j : ℕ) → 2 * suc j + 1 ≡ suc (suc (2 * j + 1)) = λ j. omega arith in
      let rest = pairs_value n (tail (tail p)) (tail a) (tail b) (λ j. ha (suc j) ∙ ap p (two j)) (λ j. hb (suc j) ∙ ap p (three j)) x in
      ap₂ (λ (y w : A). f.add y (f.mul x (f.add w (f.mul x (eval f (pairs n (tail (tail p))) x))))) (sym (ha 0)) (sym (hb 0))
      ∙ ap (λ (y : A). f.add (f.mul (a 0) (a 0)) (f.mul x (f.add (f.mul (b 0) (b 0)) (f.mul x y)))) rest
      ∙ solve (ring_laws k) (x ∷ a 0 ∷ b 0 ∷ eval f (front n (tail a)) x ∷ eval f (front n (tail b)) x ∷ [])
      ((v 1 ⊗ v 1) ⊕ (v 0 ⊗ ((v 2 ⊗ v 2) ⊕ (v 0 ⊗ ((v 3 ⊗ v 3) ⊕ (v 0 ⊗ (v 4 ⊗ v 4)))))))
      (((v 1 ⊕ (v 0 ⊗ v 3)) ⊗ (v 1 ⊕ (v 0 ⊗ v 3))) ⊕ (v 0 ⊗ ((v 2 ⊕ (v 0 ⊗ v 4)) ⊗ (v 2 ⊕ (v 0 ⊗ v 4))))) refl

  module _ {m : ℕ} (pl : Places A m) (z : pl.at 0 ≡ f.zero) where
    value_front : (n : ℕ) (l : List ℕ) → Below f n (coefs pl l) → (x : A) → value f pl l x ≡ eval f (front n (coefs pl l)) x
    unfolding value
    value_front n l u x = eval_same k (map pl.at l) (front n (coefs pl l)) x (λ j. ap (λ (s : Series A). s j) (coefs_map k pl z l) ∙ sym (front_is k n (coefs pl l) u j))

    value_pairs : (n : ℕ) (l : List ℕ) → Below f (2 * n) (coefs pl l) → (x : A) → value f pl l x ≡ eval f (pairs n (coefs pl l)) x
    unfolding value
    value_pairs n l u x = eval_same k (map pl.at l) (pairs n (coefs pl l)) x (λ j. ap (λ (s : Series A). s j) (coefs_map k pl z l) ∙ sym (pairs_is n (coefs pl l) u j))

    pub value_parts : (n : ℕ) (p a b : List ℕ) → Below f (2 * n) (coefs pl p) → Below f n (coefs pl a) → Below f n (coefs pl b)
        → ((j : ℕ) → f.mul (coefs pl a j) (coefs pl a j) ≡ coefs pl p (2 * j)) → ((j : ℕ) → f.mul (coefs pl b j) (coefs pl b j) ≡ coefs pl p (2 * j + 1))
        → (x : A) → value f pl p x ≡ from_parts f (value f pl a) (value f pl b) x
    value_parts n p a b up ua ub ha hb x =
        value_pairs n p up x ∙ pairs_value n (coefs pl p) (coefs pl a) (coefs pl b) ha hb x
        ∙ sym (ap₂ (λ (y w : A). f.add (f.mul y y) (f.mul x (f.mul w w))) (value_front n a ua x) (value_front n b ub x))

  -- a root of zero is zero, so the parts' degrees are half
  pub roots_below : ((x y : A) → Dec (x ≡ y)) → (n d c : ℕ) (p a : Series A) → Below f n p → ((j : ℕ) → f.mul (a j) (a j) ≡ p (2 * j + c)) → n ≤ 2 * d + c → Below f d a
  roots_below dec n d c p a u h le j l = square_zero k dec (h j ∙ u (2 * j + c) (omega arith))
