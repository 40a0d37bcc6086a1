use Rattle.std.proofs.Common.{◌≡◌, sym, ap, ◌∙◌}
use Rattle.polys.specs.Values.{value}
use Rattle.decoding.proofs.locate.key_root.Goals as goal

pub returns : goal.returns
returns g c =
    let k = g.met.F.Field.laws in
    let f = g.F.Field.ops in
    let pl = g.F.Field.places in
    let den = c.product_modulo.ensures.values in
    let num = c.product_modulo-2.ensures.values in
    let u = c.product_modulo-3.ensures.values in
    record {
      under = c.square_root_modulo.ensures.under;
      root = λ zs sp some x at.
          let w = value f pl c.inverse_modulo.new.b x in
          let d = f.mul (value f pl c.args.g2.now x) (value f pl c.args.s1.now x) in
          let n = f.mul (value f pl c.args.g1.now x) (value f pl c.args.v2.now x) in
          let inverse : f.mul w d ≡ f.one =
          ap (f.mul w) (sym (den x at)) ∙ c.inverse_modulo.ensures.values zs sp (λ y i e. some y i (sym (den y (sp.zeros y i)) ∙ e)) x at in
          ap (λ y. f.mul y d) (c.square_root_modulo.ensures.root x at (c.root_of_x.ensures.root zs sp x at) ∙ u x at ∙ ap (λ y. f.mul y w) (num x at))
          ∙ k.mul_assoc n w d ∙ ap (f.mul n) inverse ∙ k.mul_one n;
    }
