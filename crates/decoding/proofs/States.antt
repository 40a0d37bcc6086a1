-- What the polynomials' code leaves, in the words of the decoding theorem.
use Rattle.std.proofs.Common.{◌≡◌, ℕ, suc, ◌+◌, ◌-◌, ◌≤◌, List, map, take, Some, None, Option, sym, ap, ◌∙◌, subst, arith, MatchOption}
use Rattle.algebra.specs.Field.{Ops, Laws, Places}
use Rattle.algebra.specs.Poly.{eval}
use Rattle.algebra.specs.Series.{Series, Below, Degree}
use Rattle.algebra.proofs.Rings.{ring_laws, mul_zero, zero_add}
use Rattle.polys.specs.Coefs.{poly, coefs, Division}
use Rattle.polys.specs.Euclid.{Euclid, Gcd}
use Rattle.polys.specs.Values.{value, AtPoints}
use Rattle.polys.proofs.Terms.{at_zero}
use Rattle.polys.proofs.Lists.{coefs_map, coefs_take}
use Rattle.polys.proofs.Rule.{degree_below, below_mul}
use Rattle.polys.proofs.One.{top_mul, no_divisors}
use Rattle.polys.proofs.Bridge.{front, front_is, ser_front, eval_times, eval_two, both}
use Rattle.patterson.specs.Points.{In}
use Rattle.patterson.specs.Euclid.{EuclidState, CommonDivisor}
use Rattle.patterson.proofs.Polys.{poly_list}
use Rattle.decoding.proofs.Values.{poly_of, value_same, value_times, value_division}

module _ {A : Type 0} {f : Ops A} (k : Laws f) where
  pub same_degree : (i n : ℕ) (d : Series A) → Degree f i d → Degree f n d → i ≡ n
  same_degree i n d a b = omega (arith, degree_below k (suc n) i d a b.1, degree_below k (suc i) n d b a.1)

  -- the degrees of factors add
  pub degree_mul : (a b : ℕ) (p q r : Series A) → r ≡ (poly f).mul p q → Degree f a p → Degree f b q → Degree f (a + b) r
  degree_mul a b p q r e dp dq = (
    λ w. dp.0 (no_divisors k (p a) (q b) dq.0 (sym (top_mul k a b p q dp.1 dq.1) ∙ ap (λ (s : Series A). s (a + b)) (sym e) ∙ w)),
    λ j h. ap (λ (s : Series A). s j) e ∙ below_mul k a (suc b) p q dp.1 dq.1 j (omega arith),
  )

  -- a divisor of degree n is not zero
  pub divided : (o : Option ℕ) (n : ℕ) (p d q r : Series A) {P : Type 0} {Q : ℕ → Type 0} → Degree f n d → (P → d ≡ (poly f).zero) → ((i : ℕ) → Q i → Division f i p d q r) → MatchOption o P Q → Division f n p d q r
  divided None n p d q r top none some h = absurd (top.0 (ap (λ (s : Series A). s n) (none h) ∙ at_zero k n))
  divided (Some i) n p d q r top none some h = subst (λ (j : ℕ). Division f j p d q r) (same_degree i n d (some i h).degree top) (some i h)

module _ {A : Type 0} {f : Ops A} (k : Laws f) {m : ℕ} (pl : Places A m) (z : pl.at 0 ≡ f.zero) where
  pub state_of : (t n : ℕ) (p q s r a b : List ℕ) → Euclid f t (coefs pl p) (coefs pl q) (coefs pl s) (coefs pl r) (coefs pl a) (coefs pl b) n
      → AtPoints f (value f pl p) (value f pl q) (value f pl s) (value f pl r) (value f pl a) (value f pl b)
      → EuclidState f t (value f pl p) (value f pl q) n (value f pl s) (value f pl r) (value f pl a) (value f pl b)
  state_of t n p q s r a b h v = record {
    room = h.within;
    whole = λ x. sym (v.whole x);
    gives = λ x e. sym (v.second x e);
    gave = λ x e. sym (v.first x e);
    common = λ x e₁ e₂. (v.common x e₁ e₂).1;
    older_poly = poly_of k pl z s (suc n) h.degree.1;
    newer_poly = poly_of k pl z r n h.under;
    old_factor_poly = poly_of k pl z a (suc (t - n)) h.short_a;
    factor_poly = poly_of k pl z b (suc (t - n)) h.short_b;
  }

  pub divisor_of : (t n : ℕ) (p q g : List ℕ) → Gcd f t n (coefs pl p) (coefs pl q) (coefs pl g) → (zs : List A) → ((x : A) → In x zs → value f pl p x ≡ f.zero)
      → CommonDivisor f t (value f pl p) (value f pl q) zs n (value f pl g)
  unfolding value
  divisor_of t n p q g h zs at_zeros =
      let is = coefs_map k pl z in
      let N = suc (t - n) in
      let ep = is p in
      let eq = is q in
      let eg = is g in
      let e₁ = ser_front k N h.p_over h.short_p_over in
      let e₂ = ser_front k N h.q_over h.short_q_over in
      let e₃ = ser_front k N h.p_part h.short_p_part in
      let e₄ = ser_front k N h.q_part h.short_q_part in
      let x₁ = h.p_is in
      let x₂ = h.q_is in
      let x₃ = h.sum in
      record {
        room = h.within;
        poly = poly_of k pl z g (suc n) h.under;
        other = eval f (front N h.p_over);
        other_poly = poly_list k (front N h.p_over) N (λ j l. front_is k N h.p_over h.short_p_over j ∙ h.short_p_over j l);
        parts = λ x. sym (eval_times k (map pl.at p) (front N h.p_over) (map pl.at g) x (cc));
        zero_there = λ x i e. eval_times k (map pl.at q) (front N h.q_over) (map pl.at g) x (cc) ∙ ap (f.mul (eval f (front N h.q_over) x)) e ∙ mul_zero (ring_laws k) (eval f (front N h.q_over) x);
        zero_here = λ x i e. eval_two k (map pl.at g) (front N h.p_part) (map pl.at p) (front N h.q_part) (map pl.at q) x (cc) ∙ both k _ _ _ _ (at_zeros x i) e;
      }

  pub divisor_degree : (t n : ℕ) (p q g : List ℕ) → Gcd f t n (coefs pl p) (coefs pl q) (coefs pl g) → Degree f n (coefs pl g)
  divisor_degree t n p q g h = (λ e. k.one_zero (sym h.top ∙ e), h.under)

  -- the first coefficients of a remainder, by a polynomial of degree n, of a product
  module _ (n : ℕ) (p q d wide quot rest out : List ℕ) (l : ℕ) (made : coefs pl wide ≡ (poly f).mul (coefs pl p) (coefs pl q))
      (h : Division f n (coefs pl wide) (coefs pl d) (coefs pl quot) (coefs pl rest)) (e : out ≡ take l rest) (le : n ≤ l) where
    kept : coefs pl out ≡ coefs pl rest
    kept = ap (coefs pl) e ∙ coefs_take k pl z rest l (λ j w. h.rest j (omega arith))

    pub product_under : Below f n (coefs pl out)
    product_under = subst (λ (s : Series A). Below f n s) (sym kept) h.rest

    pub product_value : (x : A) → value f pl d x ≡ f.zero → value f pl out x ≡ f.mul (value f pl p x) (value f pl q x)
    product_value x w =
        value_same k pl z out rest kept x
        ∙ sym (zero_add (ring_laws k) (value f pl rest x))
        ∙ ap (λ (y : A). f.add y (value f pl rest x)) (sym (ap (f.mul (value f pl quot x)) w ∙ mul_zero (ring_laws k) (value f pl quot x)))
        ∙ sym (value_division k pl z n wide d quot rest h x) ∙ value_times k pl z wide p q made x
