-- The values of polynomials in lists, from their coefficients.
use Rattle.std.proofs.Common.{◌≡◌, ℕ, zero, suc, ◌+◌, ◌-◌, ◌≤◌, List, [], ◌∷◌, map, length, sym, refl, ap, ◌∙◌, ap₂, arith}
use mathlib.Core.Path.{fun_ext}
use Rattle.algebra.specs.Field.{Ops, Laws, Places}
use Rattle.algebra.specs.Ring.{ring_of}
use Rattle.algebra.specs.Poly.{sum, eval}
use Rattle.algebra.specs.Series.{Series, ser, Below, Degree}
use Rattle.algebra.proofs.Rings.{ring_laws, zero_add, mul_zero}
use Rattle.algebra.proofs.Eval.{eval_sum, eval_same}
use Rattle.algebra.proofs.Lists.{ser_sum}
use Rattle.algebra.proofs.Solve.{v, o, i, ◌⊕◌, ◌⊗◌, solve}
use Rattle.polys.specs.Coefs.{poly, coefs, mono, Division}
use Rattle.polys.specs.Values.{value}
use Rattle.polys.proofs.Terms.{poly_laws, at_add, at_zero, below_less}
use Rattle.polys.proofs.Lists.{coefs_map, below_list}
use Rattle.polys.proofs.Bridge.{eval_times, eval_division}
use Rattle.polys.proofs.One.{top_mul, no_divisors}
use Rattle.patterson.specs.Polys.{Poly}
use Rattle.patterson.specs.Syndrome.{shifted}
use Rattle.patterson.proofs.Polys.{poly_list}

module _ {A : Type 0} {f : Ops A} (k : Laws f) where
  const_list : (c : A) → ser (ring_of f) (c ∷ []) ≡ mono f c 0
  unfolding mono
  const_list c = fun_ext (elim [ zero ↦ refl | suc j ↦ refl ])

  linear_list : (c : A) → ser (ring_of f) (f.zero ∷ c ∷ []) ≡ mono f c 1
  unfolding mono
  linear_list c = fun_ext at where
    at : (j : ℕ) → ser (ring_of f) (f.zero ∷ c ∷ []) j ≡ mono f c 1 j
    at zero = refl
    at (suc zero) = refl
    at (suc (suc j)) = refl

  one_list : ser (ring_of f) (f.one ∷ []) ≡ (poly f).one
  unfolding poly
  one_list = fun_ext (elim [ zero ↦ refl | suc j ↦ refl ])

  module _ {m : ℕ} (pl : Places A m) (z : pl.at 0 ≡ f.zero) where
    pub value_same : (p q : List ℕ) → coefs pl p ≡ coefs pl q → (x : A) → value f pl p x ≡ value f pl q x
    unfolding value
    value_same p q e x = eval_same k (map pl.at p) (map pl.at q) x (λ j. ap (λ (s : Series A). s j) (coefs_map k pl z p ∙ e ∙ sym (coefs_map k pl z q)))

    pub value_times : (l a b : List ℕ) → coefs pl l ≡ (poly f).mul (coefs pl a) (coefs pl b) → (x : A) → value f pl l x ≡ f.mul (value f pl a x) (value f pl b x)
    unfolding value
    value_times l a b e x =
        let e₁ = coefs_map k pl z l in
        let e₂ = coefs_map k pl z a in
        let e₃ = coefs_map k pl z b in
        eval_times k (map pl.at l) (map pl.at a) (map pl.at b) x (cc)

    pub value_plus : (l a b : List ℕ) → coefs pl l ≡ (poly f).add (coefs pl a) (coefs pl b) → (x : A) → value f pl l x ≡ f.add (value f pl a x) (value f pl b x)
    unfolding value
    value_plus l a b e x =
        let to : List ℕ → List A = map pl.at in
        let at : (c : List ℕ) (j : ℕ) → ser (ring_of f) (to c) j ≡ coefs pl c j = λ c j. ap (λ (s : Series A). s j) (coefs_map k pl z c) in
        eval_same k (to l) (sum f (to a) (to b)) x
        (λ j. at l j ∙ ap (λ (s : Series A). s j) e ∙ at_add k (coefs pl a) (coefs pl b) j ∙ sym (ser_sum k (to a) (to b) j ∙ ap₂ f.add (at a j) (at b j)))
        ∙ eval_sum k (to a) (to b) x

    -- a dividend from its quotient q and its remainder r
    pub value_division : (n : ℕ) (p d q r : List ℕ) → Division f n (coefs pl p) (coefs pl d) (coefs pl q) (coefs pl r) → (x : A) → value f pl p x ≡ f.add (f.mul (value f pl q x) (value f pl d x)) (value f pl r x)
    unfolding value
    value_division n p d q r h x =
        let e₁ = coefs_map k pl z p in
        let e₂ = coefs_map k pl z q in
        let e₃ = coefs_map k pl z d in
        let e₄ = coefs_map k pl z r in
        let w = h.whole in
        eval_division k (map pl.at p) (map pl.at q) (map pl.at d) (map pl.at r) x (cc)

    -- a polynomial of degree below d
    pub poly_of : (l : List ℕ) (d : ℕ) → Below f d (coefs pl l) → Poly f d (value f pl l)
    unfolding value
    poly_of l d u = poly_list k (map pl.at l) d (λ j h. ap (λ (s : Series A). s j) (coefs_map k pl z l) ∙ u j h)

    value_one : (l : List ℕ) → coefs pl l ≡ (poly f).one → (x : A) → value f pl l x ≡ f.one
    unfolding value
    value_one l e x =
        eval_same k (map pl.at l) (f.one ∷ []) x (λ j. ap (λ (s : Series A). s j) (coefs_map k pl z l ∙ e ∙ sym one_list))
        ∙ solve (ring_laws k) (x ∷ []) (i ⊕ (v 0 ⊗ o)) i refl

    -- b and a multiple of a
    value_added : (l a b : List ℕ) (w : List A) → coefs pl l ≡ (poly f).add (coefs pl b) ((poly f).mul (ser (ring_of f) w) (coefs pl a)) → (x : A)
        → value f pl l x ≡ f.add (f.mul (eval f w x) (value f pl a x)) (value f pl b x)
    unfolding value
    value_added l a b w e x =
        let e₁ = coefs_map k pl z l in
        let e₂ = coefs_map k pl z a in
        let e₃ = coefs_map k pl z b in
        let s = (poly_laws k).add_comm (coefs pl b) ((poly f).mul (ser (ring_of f) w) (coefs pl a)) in
        eval_division k (map pl.at l) w (map pl.at a) (map pl.at b) x (cc)

    pub value_scaled : (l a : List ℕ) (c : A) → coefs pl l ≡ (poly f).mul (mono f c 0) (coefs pl a) → (x : A) → value f pl l x ≡ f.mul c (value f pl a x)
    unfolding value
    value_scaled l a c e x =
        let e₁ = coefs_map k pl z l in
        let e₂ = coefs_map k pl z a in
        let w = const_list c in
        eval_times k (map pl.at l) (c ∷ []) (map pl.at a) x (cc)
        ∙ ap (λ (y : A). f.mul y (eval f (map pl.at a) x)) (solve (ring_laws k) (c ∷ x ∷ []) (v 0 ⊕ (v 1 ⊗ o)) (v 0) refl)

    pub value_zero : (l : List ℕ) → value f pl l f.zero ≡ coefs pl l 0
    unfolding value coefs
    value_zero [] = sym z
    value_zero (y ∷ l) = solve (ring_laws k) (pl.at y ∷ eval f (map pl.at l) f.zero ∷ []) (v 0 ⊕ (o ⊗ v 1)) (v 0) refl

    -- 1 + X·s and a multiple of g
    pub shifted_value : (a b l s g : List ℕ) (c : A) → coefs pl a ≡ (poly f).one → coefs pl b ≡ (poly f).add (coefs pl a) ((poly f).mul (mono f f.one 1) (coefs pl s))
        → coefs pl l ≡ (poly f).add (coefs pl b) ((poly f).mul (mono f c 0) (coefs pl g)) → (x : A) → value f pl g x ≡ f.zero → value f pl l x ≡ shifted f (value f pl s) x
    shifted_value a b l s g c ea eb el x e =
        let w₁ = const_list c in
        let w₂ = linear_list f.one in
        value_added l g b (c ∷ []) (cc) x
        ∙ ap₂ (λ (y w : A). f.add (f.mul (eval f (c ∷ []) x) y) w) e (value_added b s a (f.zero ∷ f.one ∷ []) (cc) x ∙ ap (f.add (f.mul (eval f (f.zero ∷ f.one ∷ []) x) (value f pl s x))) (value_one a ea x))
        ∙ solve (ring_laws k) (x ∷ c ∷ value f pl s x ∷ []) (((v 1 ⊕ (v 0 ⊗ o)) ⊗ o) ⊕ (((o ⊕ (v 0 ⊗ (i ⊕ (v 0 ⊗ o)))) ⊗ v 2) ⊕ i)) (i ⊕ (v 0 ⊗ v 2)) refl

    pub shifted_under : (b l g : List ℕ) (t : ℕ) (c : A) → length l ≡ t + 1 → c ≡ coefs pl b t → coefs pl g t ≡ f.one
        → coefs pl l ≡ (poly f).add (coefs pl b) ((poly f).mul (mono f c 0) (coefs pl g)) → Below f t (coefs pl l)
    shifted_under b l g t c long read monic e =
        below_less k t (coefs pl l) (λ j h. below_list k pl z l j (omega arith))
        (ap (λ (s : Series A). s t) e ∙ at_add k (coefs pl b) ((poly f).mul (mono f c 0) (coefs pl g)) t
        ∙ ap₂ f.add (sym read) (Rattle.polys.proofs.Terms.mono_high k c 0 (coefs pl g) t t (omega arith) ∙ ap (f.mul c) monic ∙ k.mul_one c) ∙ k.add_self c)

  -- the degree of a quotient is the difference of the degrees
  module _ (n t : ℕ) (p d q r : Series A) (h : Division f n p d q r) (top : Degree f t p) (le : n ≤ t) where
    at_high : (j : ℕ) → Below f (suc j) q → p (j + n) ≡ f.mul (q j) (d n)
    at_high j u =
        ap (λ (s : Series A). s (j + n)) h.whole ∙ at_add k ((poly f).mul q d) r (j + n)
        ∙ ap₂ f.add (top_mul k j n q d u h.degree.1) (h.rest (j + n) (omega arith)) ∙ k.add_zero (f.mul (q j) (d n))

    quotient_below : (e : ℕ) → Below f (e + suc (t - n)) q → Below f (suc (t - n)) q
    quotient_below zero u = λ j l. u j (omega arith)
    quotient_below (suc e) u =
        let j = e + suc (t - n) in
        let up : Below f (suc j) q = λ i l. u i (omega arith) in
        quotient_below e (below_less k j q (λ i l. up i (omega arith)) (no_divisors k (q j) (d n) h.degree.0 (sym (at_high j up) ∙ top.1 (j + n) (omega arith))))

    pub quotient_degree : (e : ℕ) → Below f e q → Degree f (t - n) q
    quotient_degree e u =
        let low : Below f (suc (t - n)) q = quotient_below e (λ j l. u j (omega arith)) in
        let is : t - n + n ≡ t = omega arith in (
          λ w. top.0 (sym (ap p is) ∙ at_high (t - n) low ∙ ap (λ (x : A). f.mul x (d n)) w ∙ Rattle.algebra.proofs.Rings.zero_mul (ring_laws k) (d n)),
          low,
        )
