-- From coefficients to values.
use Rattle.std.proofs.Common.{◌≡◌, ℕ, zero, suc, ◌-◌, List, [], ◌∷◌, map, sym, refl, ap, ◌∙◌, ap₂, arith}
use mathlib.Core.Path.{fun_ext}
use Rattle.algebra.specs.Field.{Ops, Laws, Places}
use Rattle.algebra.specs.Ring.{ring_of}
use Rattle.algebra.specs.Poly.{sum, product, eval}
use Rattle.algebra.specs.Series.{Series, tail, ser, Below}
use Rattle.algebra.proofs.Rings.{ring_laws, zero_add, mul_zero}
use Rattle.algebra.proofs.Eval.{eval_sum, eval_product, eval_same}
use Rattle.algebra.proofs.Lists.{ser_sum, ser_product}
use Rattle.polys.specs.Coefs.{poly, coefs}
use Rattle.polys.specs.Euclid.{Euclid}
use Rattle.polys.specs.Values.{value, AtPoints}
use Rattle.polys.proofs.Lists.{coefs_map}

abbrev pub front : {A : Type 0} → ℕ → Series A → List A
front zero p = []
front (suc n) p = p 0 ∷ front n (tail p)

module _ {A : Type 0} {f : Ops A} (k : Laws f) where
  abbrev of : List A → Series A
  of l = ser (ring_of f) l

  pub front_is : (n : ℕ) (p : Series A) → Below f n p → (j : ℕ) → of (front n p) j ≡ p j
  front_is zero p u j = sym (u j (omega arith))
  front_is (suc n) p u zero = refl
  front_is (suc n) p u (suc j) = front_is n (tail p) (λ i h. u (suc i) (omega arith)) j

  pub ser_front : (n : ℕ) (p : Series A) → Below f n p → of (front n p) ≡ p
  ser_front n p u = fun_ext (front_is n p u)

  ser_two : (a b c d : List A) (j : ℕ) → of (sum f (product f a b) (product f c d)) j ≡ (poly f).add ((poly f).mul (of a) (of b)) ((poly f).mul (of c) (of d)) j
  unfolding poly
  ser_two a b c d j = ser_sum k (product f a b) (product f c d) j ∙ ap₂ f.add (ap (λ (p : Series A). p j) (ser_product k a b)) (ap (λ (p : Series A). p j) (ser_product k c d))

  -- the values of a·b + c·d
  pub eval_two : (l a b c d : List A) (x : A) → of l ≡ (poly f).add ((poly f).mul (of a) (of b)) ((poly f).mul (of c) (of d)) → eval f l x ≡ f.add (f.mul (eval f a x) (eval f b x)) (f.mul (eval f c x) (eval f d x))
  eval_two l a b c d x e =
      eval_same k l (sum f (product f a b) (product f c d)) x (λ j. ap (λ (p : Series A). p j) e ∙ sym (ser_two a b c d j))
      ∙ eval_sum k (product f a b) (product f c d) x ∙ ap₂ f.add (eval_product k a b x) (eval_product k c d x)

  ser_one : (a b : List A) (j : ℕ) → of (product f a b) j ≡ (poly f).mul (of a) (of b) j
  unfolding poly
  ser_one a b j = ap (λ (p : Series A). p j) (ser_product k a b)

  pub eval_times : (l a b : List A) (x : A) → of l ≡ (poly f).mul (of a) (of b) → eval f l x ≡ f.mul (eval f a x) (eval f b x)
  eval_times l a b x e = eval_same k l (product f a b) x (λ j. ap (λ (p : Series A). p j) e ∙ sym (ser_one a b j)) ∙ eval_product k a b x

  ser_division : (a b c : List A) (j : ℕ) → of (sum f (product f a b) c) j ≡ (poly f).add ((poly f).mul (of a) (of b)) (of c) j
  unfolding poly
  ser_division a b c j = ser_sum k (product f a b) c j ∙ ap (λ (u : A). f.add u (of c j)) (ap (λ (p : Series A). p j) (ser_product k a b))

  -- the values of a·b + c
  pub eval_division : (l a b c : List A) (x : A) → of l ≡ (poly f).add ((poly f).mul (of a) (of b)) (of c) → eval f l x ≡ f.add (f.mul (eval f a x) (eval f b x)) (eval f c x)
  eval_division l a b c x e =
      eval_same k l (sum f (product f a b) c) x (λ j. ap (λ (p : Series A). p j) e ∙ sym (ser_division a b c j))
      ∙ eval_sum k (product f a b) c x ∙ ap (λ (u : A). f.add u (eval f c x)) (eval_product k a b x)

  pub both : (p q u w : A) → u ≡ f.zero → w ≡ f.zero → f.add (f.mul p u) (f.mul q w) ≡ f.zero
  both p q u w e₁ e₂ = ap₂ (λ s t. f.add (f.mul p s) (f.mul q t)) e₁ e₂ ∙ ap₂ f.add (mul_zero (ring_laws k) p) (mul_zero (ring_laws k) q) ∙ k.add_zero f.zero

  last : (p q u w : A) → u ≡ f.zero → f.add (f.mul p u) (f.mul q w) ≡ f.mul q w
  last p q u w e = ap (λ s. f.add (f.mul p s) (f.mul q w)) e ∙ ap (λ s. f.add s (f.mul q w)) (mul_zero (ring_laws k) p) ∙ zero_add (ring_laws k) (f.mul q w)

  module _ {m : ℕ} (pl : Places A m) (z : pl.at 0 ≡ f.zero) where
    abbrev to : List ℕ → List A
    to l = map pl.at l

    points : (t n : ℕ) (p q s r a b : List ℕ) → Euclid f t (coefs pl p) (coefs pl q) (coefs pl s) (coefs pl r) (coefs pl a) (coefs pl b) n
        → AtPoints f (eval f (to p)) (eval f (to q)) (eval f (to s)) (eval f (to r)) (eval f (to a)) (eval f (to b))
    points t n p q s r a b h =
        let is = coefs_map k pl z in
        let C = front (suc (t - n)) h.c in
        let D = front (suc (t - n)) h.d in
        let ep = is p in
        let eq = is q in
        let es = is s in
        let er = is r in
        let ea = is a in
        let eb = is b in
        let ec = ser_front (suc (t - n)) h.c h.short_c in
        let ed = ser_front (suc (t - n)) h.d h.short_d in
        let xp = h.p_is in
        let xq = h.q_is in
        let xs = h.s_is in
        let xr = h.r_is in
        let vp = λ (x : A). eval_two (to p) (to b) (to s) (to a) (to r) x (cc) in
        let vq = λ (x : A). eval_two (to q) D (to s) C (to r) x (cc) in
        let vs = λ (x : A). eval_two (to s) C (to p) (to a) (to q) x (cc) in
        let vr = λ (x : A). eval_two (to r) D (to p) (to b) (to q) x (cc) in
        record {
          whole = vp;
          first = λ x e. vs x ∙ last _ _ _ _ e;
          second = λ x e. vr x ∙ last _ _ _ _ e;
          common = λ x e₁ e₂. (vp x ∙ both _ _ _ _ e₁ e₂, vq x ∙ both _ _ _ _ e₁ e₂);
          kept = λ x e₁ e₂. (vs x ∙ both _ _ _ _ e₁ e₂, vr x ∙ both _ _ _ _ e₁ e₂);
        }

    pub at_points : (t n : ℕ) (p q s r a b : List ℕ) → Euclid f t (coefs pl p) (coefs pl q) (coefs pl s) (coefs pl r) (coefs pl a) (coefs pl b) n
        → AtPoints f (value f pl p) (value f pl q) (value f pl s) (value f pl r) (value f pl a) (value f pl b)
    unfolding value
    at_points t n p q s r a b h = points t n p q s r a b h
