-- Euclid's rule up to a constant gives the inverse modulo a polynomial with single zeros.
use Rattle.std.proofs.Common.{◌≡◌, ℕ, suc, ◌-◌, ◌≤◌, List, sym, ap, ◌∙◌, arith}
use Rattle.algebra.specs.Field.{Ops, Laws, Places}
use Rattle.algebra.specs.Series.{Series, Below}
use Rattle.polys.specs.Coefs.{poly, coefs, mono}
use Rattle.polys.specs.Euclid.{Euclid}
use Rattle.polys.specs.Values.{value, AtPoints}
use Rattle.polys.proofs.Terms.{below_mono}
use Rattle.patterson.specs.Points.{In}
use Rattle.patterson.specs.Polys.{Splits}
use Rattle.patterson.proofs.Numbered.{same_from}
use Rattle.patterson.proofs.Polys.{poly_constant}
use Rattle.patterson.proofs.Inverse.{newer_some, inverse_at}
use Rattle.decoding.proofs.Values.{value_scaled, value_zero, poly_of}
use Rattle.decoding.proofs.States.{state_of}

module _ {A : Type 0} {f : Ops A} (k : Laws f) {m : ℕ} (pl : Places A m) (z : pl.at 0 ≡ f.zero)
    (n d : ℕ) (p q s r a b out : List ℕ) (e : A) (h : Euclid f n (coefs pl p) (coefs pl q) (coefs pl s) (coefs pl r) (coefs pl a) (coefs pl b) d)
    (pos : 1 ≤ d) (made : coefs pl out ≡ (poly f).mul (mono f e 0) (coefs pl b)) where
  pub inverse_under : Below f n (coefs pl out)
  inverse_under j l = ap (λ (w : Series A). w j) made ∙ below_mono k e 0 (suc (n - d)) (coefs pl b) h.short_b j (omega (arith, h.within))

  pub inverse_value : AtPoints f (value f pl p) (value f pl q) (value f pl s) (value f pl r) (value f pl a) (value f pl b) → Below f 1 (coefs pl r)
      → ((coefs pl r 0 ≡ f.zero → ⊥) → e ≡ f.inv (coefs pl r 0))
      → (zs : List A) → Splits f n (value f pl p) zs → ((x : A) → In x zs → value f pl q x ≡ f.zero → ⊥)
      → (x : A) → value f pl p x ≡ f.zero → f.mul (value f pl out x) (value f pl q x) ≡ f.one
  inverse_value w low inverse zs sp some x at =
      let st = state_of k pl z n d p q s r a b h w in
      let one = poly_of k pl z r 1 low in
      let nz : coefs pl r 0 ≡ f.zero → ⊥ = λ u.
      newer_some k (same_from pl) n (value f pl p) (value f pl q) zs sp some d (value f pl s) (value f pl r) (value f pl a) (value f pl b) st (omega arith)
      (λ y. poly_constant k one y f.zero ∙ value_zero k pl z r ∙ u) in
      ap (λ (y : A). f.mul y (value f pl q x)) (value_scaled k pl z out b e made x ∙ ap (λ (y : A). f.mul y (value f pl b x)) (inverse nz))
      ∙ inverse_at k (same_from pl) n (value f pl p) (value f pl q) zs sp some d (value f pl s) (value f pl r) (value f pl a) (value f pl b) st (omega arith) one (coefs pl r 0) (sym (value_zero k pl z r)) x at
