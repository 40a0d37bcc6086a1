use Rattle.std.proofs.Common.{◌≡◌, cond, get_or, length, sym, ap, ◌∙◌, arith}
use Rattle.algebra.specs.Series.{Series}
use Rattle.polys.specs.Coefs.{coefs}
use Rattle.polys.proofs.Terms.{at_add}
use Rattle.polys.proofs.Lists.{coefs_at}
use Rattle.goppa.specs.Columns.{Column}
use Rattle.goppa.specs.Matrix.{column_place}
use Rattle.goppa.proofs.Matrices.{place}
use Rattle.decoder.proofs.candidates.add_chosen.Goals as goal

pub returns : goal.returns
returns g c =
    let k = g.met.F.Field.laws in
    let f = g.F.Field.ops in
    let pl = g.F.Field.places in
    let gs = c.args.code.now.g.now in
    let x = get_or c.args.code.now.support.now c.args.j 0 in
    let t = length c.args.sum.now in
    let q = c.column.new.out in
    let en : length c.args.col.now ≡ t = omega arith in
    let col : Column f pl t gs (pl.at x) q = rw en at c.column.ensures in
    record {
      sum = λ r l.
          ap (λ (s : Series g.row.F.Denot). s r) c.add.ensures.is ∙ at_add k (coefs pl c.args.sum.now) (coefs pl q) r
          ∙ ap (f.add (coefs pl c.args.sum.now r))
          (coefs_at k pl q r ∙ ap pl.at (place f pl t gs q x col r l)
          ∙ ap (λ b. cond b (pl.at (column_place f pl t gs x r)) f.zero) (sym c.if-not-chosen.false));
      placed = c.add.ensures.placed;
    }
