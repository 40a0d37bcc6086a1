use Rattle.std.proofs.Common.{sym, ◌∙◌}
use Rattle.std.proofs.lemmas.Result.{err_from_is_err_and}
use Rattle.levels.specs.Names.{level_of}
use Rattle.keys.proofs.Passing.{refused_at}
use Rattle.keys.proofs.checks.check.Goals as goal

pub returns-in_err-check_rows : goal.returns-in_err-check_rows
returns-in_err-check_rows c =
    let p = err_from_is_err_and c.from_residual-in_err-check_rows.result c.from_residual-in_err-check_rows.ensures.1 in
    rw (p.1, p.2)
    (refused_at (level_of c.args.level.now) c.in_ok-level.level c.sizes.result c.args.buffers c.args.work c.in_err-check_rows.field-0.0
    (sym c.parse.ensures.value ∙ c.in_ok-level.was) c.sizes.ensures.table (sym c.check_rows.ensures ∙ c.in_err-check_rows.was))
