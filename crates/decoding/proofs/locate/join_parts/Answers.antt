use Rattle.std.proofs.Common.{sym, ◌∙◌, subst, ap₂, rules}
use Rattle.algebra.specs.Series.{Series, Below}
use Rattle.decoding.proofs.Values.{value_times}
use Rattle.decoding.proofs.locate.join_parts.Goals as goal

pub join_squares-requires : goal.join_squares-requires
join_squares-requires g c =
    let f = g.F.Field.ops in
    let n = c.args.n in
    record {
      fits = search rules;
      under = (
        subst (λ (s : Series g.row.F.Denot). Below f n s) (sym c.product.ensures.is) c.requires.under.0,
        subst (λ (s : Series g.row.F.Denot). Below f n s) (sym c.product-2.ensures.is) c.requires.under.1,
      );
    }

pub returns : goal.returns
returns g c =
    let k = g.met.F.Field.laws in
    let f = g.F.Field.ops in
    let pl = g.F.Field.places in
    let z = g.met.F.Field.origin in
    λ x.
    c.join_squares.ensures x
    ∙ ap₂ (λ y w. f.add (f.mul y y) (f.mul x (f.mul w w)))
    (value_times k pl z c.product.new.out c.args.a.now c.args.g2.now c.product.ensures.is x)
    (value_times k pl z c.product-2.new.out c.args.b.now c.args.g1.now c.product-2.ensures.is x)
