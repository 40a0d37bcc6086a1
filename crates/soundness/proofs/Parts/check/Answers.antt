use Rattle.std.proofs.Common.{length, sym, ap, ◌∙◌}
use Rattle.std.proofs.lemmas.Result.{err_from_is_err_and}
use Rattle.soundness.specs.Parts.{code_rows, matrix_rows}
use Rattle.soundness.proofs.Answering.{rows_pass, rows_stop}
use Rattle.soundness.proofs.Numbers.{support_long, goppa_long}
use Rattle.soundness.proofs.Parts.check.Goals as goal

pub check_matrix-requires-clause-long : goal.check_matrix-requires-clause-long
check_matrix-requires-clause-long g c =
    let s = c.args.self.now.sizes in
    let key = c.args.key.now in
    let is = c.in_ok-code.ensures in
    (ap length is.1.1 ∙ goppa_long g.F.Field.ops g.F.Field.places s key, ap length is.1.0 ∙ support_long s key)

pub returns-in_err-code : goal.returns-in_err-code
returns-in_err-code g c =
    let s = c.args.self.now.sizes in
    let key = c.args.key.now in
    let f = g.F.Field.ops in
    let pl = g.F.Field.places in
    let p = err_from_is_err_and c.from_residual.result c.from_residual.ensures.1 in
    rw (p.1, p.2) (rows_stop (code_rows f pl s key) (matrix_rows f pl s key) c.in_err-code.field-0.0 (sym c.in_err-code.ensures))

pub returns : goal.returns
returns g c =
    let s = c.args.self.now.sizes in
    let key = c.args.key.now in
    let f = g.F.Field.ops in
    let pl = g.F.Field.places in
    rows_pass (code_rows f pl s key) (matrix_rows f pl s key) c.check_matrix.result (sym c.in_ok-code.ensures.0) c.check_matrix.ensures
