use Rattle.std.proofs.Common.{◌≡◌, ℕ, suc, ◌+◌, ◌*◌, ◌/◌, sym, ap, ◌∙◌, arith, rules}
use Rattle.polys.specs.Coefs.{coefs}
use Rattle.polys.specs.Values.{value}
use Rattle.patterson.proofs.Numbered.{same_from}
use Rattle.decoding.proofs.Values.{poly_of}
use Rattle.decoding.proofs.Squares.{roots_below}
use Rattle.decoding.proofs.OddPart.{odd_some, root_by}
use Rattle.decoding.proofs.roots.root_of_x.Goals as goal

pub inverse_modulo-requires : goal.inverse_modulo-requires
inverse_modulo-requires g c =
    let pl = g.F.Field.places in
    let n = c.args.n in
    let p = c.args.modulus.now in
    let b = c.roots_apart.new.odd in
    record {
      fits = search rules;
      work = search rules;
      degree = c.requires.degree;
      under = roots_below g.met.F.Field.laws (same_from pl) (suc n) n 1 (coefs pl p) (coefs pl b) c.requires.degree.1 c.roots_apart.ensures.odd (omega arith);
    }

pub returns : goal.returns
returns g c =
    let k = g.met.F.Field.laws in
    let f = g.F.Field.ops in
    let pl = g.F.Field.places in
    let z = g.met.F.Field.origin in
    let n = c.args.n in
    let p = c.args.modulus.now in
    let a = c.roots_apart.new.even in
    let b = c.roots_apart.new.odd in
    let w = c.inverse_modulo.new.b in
    let plain : (j : ℕ) → 2 * j ≡ 2 * j + 0 = λ j. omega arith in
    let is = c.roots_apart.ensures.values in
    let pa = poly_of k pl z a (suc (n / 2)) (roots_below k (same_from pl) (suc n) (suc (n / 2)) 0 (coefs pl p) (coefs pl a) c.requires.degree.1 (λ j. c.roots_apart.ensures.even j ∙ ap (coefs pl p) (plain j)) (omega arith)) in
    let pb = poly_of k pl z b (suc n / 2) (roots_below k (same_from pl) (suc n) (suc n / 2) 1 (coefs pl p) (coefs pl b) c.requires.degree.1 c.roots_apart.ensures.odd (omega arith)) in
    record {
      under = c.product_modulo.ensures.under;
      root = λ zs sp x at.
          root_by k x (value f pl a x) (value f pl b x) (value f pl w x) (value f pl c.product_modulo.new.out x) (sym (is x) ∙ at)
          (c.inverse_modulo.ensures.values zs sp (odd_some k (same_from pl) n (value f pl p) (value f pl a) (value f pl b) zs sp is pa pb (omega arith)) x at)
          (c.product_modulo.ensures.values x at);
    }
