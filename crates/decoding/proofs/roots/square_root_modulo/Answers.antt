use Rattle.std.proofs.Common.{◌≡◌, ℕ, ◌+◌, ◌*◌, sym, ap, ◌∙◌, subst, arith}
use Rattle.algebra.specs.Series.{Series, Below}
use Rattle.polys.specs.Coefs.{coefs}
use Rattle.polys.specs.Values.{value}
use Rattle.polys.proofs.Terms.{below_add}
use Rattle.patterson.proofs.Numbered.{same_from}
use Rattle.decoding.proofs.Values.{value_plus}
use Rattle.decoding.proofs.Squares.{roots_below}
use Rattle.decoding.proofs.OddPart.{root_from}
use Rattle.decoding.proofs.roots.square_root_modulo.Goals as goal

pub returns : goal.returns
returns g c =
    let k = g.met.F.Field.laws in
    let f = g.F.Field.ops in
    let pl = g.F.Field.places in
    let z = g.met.F.Field.origin in
    let n = c.args.n in
    let u = c.args.u.now in
    let a = c.roots_apart.new.even in
    let b = c.roots_apart.new.odd in
    let out = c.product_modulo.new.out in
    let y = c.add.new.into in
    let plain : (j : ℕ) → 2 * j ≡ 2 * j + 0 = λ j. omega arith in
    let low : Below f n (coefs pl a) = roots_below k (same_from pl) n n 0 (coefs pl u) (coefs pl a) c.requires.under (λ j. c.roots_apart.ensures.even j ∙ ap (coefs pl u) (plain j)) (omega arith) in
    record {
      under = subst (λ (s : Series g.row.F.Denot). Below f n s) (sym c.add.ensures.is) (below_add k n (coefs pl out) (coefs pl a) c.product_modulo.ensures.under low);
      root = λ x at e.
          root_from k x (value f pl a x) (value f pl b x) (value f pl c.args.root.now x) (value f pl u x) (value f pl y x) (c.roots_apart.ensures.values x) e
          (value_plus k pl z y out a c.add.ensures.is x ∙ ap (λ w. f.add w (value f pl a x)) (c.product_modulo.ensures.values x at));
    }
