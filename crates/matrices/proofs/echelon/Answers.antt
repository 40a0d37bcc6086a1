use Rattle.std.proofs.Common.{◌≡◌, ◌+◌, ◌*◌, sym, refl, arith}
use Rattle.std.proofs.lemmas.Result.{err_from_is_err_and}
use Rattle.bits.specs.Packed.{matrix}
use Rattle.bits.proofs.Reduction.{echelon_is}
use Rattle.bits.proofs.ReducedOf.{reduced_is}
use Rattle.bits.proofs.Decision.{independent_found, dependent_found}
use Rattle.matrices.proofs.echelon.Goals as goal

pub returns-in_err-reduce : goal.returns-in_err-reduce
returns-in_err-reduce c =
    let p = err_from_is_err_and c.from_residual.result c.from_residual.ensures.1 in
    let d = c.in_err-reduce.ensures in
    record {
      form = rw p.1 (d, refl);
      reduced = rw p.1 tt;
      rest = λ k l. refl;
      decided = rw p.1 (sym (dependent_found (8 * c.args.front) (matrix (c.args.front + c.args.back) c.args.hp.now) d));
    }

pub returns : goal.returns
returns c =
    let e : 8 * (c.args.front + c.args.back) ≡ 8 * c.args.front + 8 * c.args.back = omega arith in
    let A = matrix (c.args.front + c.args.back) c.args.hp.now in
    let h =
    echelon_is (8 * c.args.front) (8 * c.args.back) A (matrix (c.args.front + c.args.back) c.reduce.new.m)
    (matrix c.args.back c.copy_columns.new.out) (rw e at c.in_ok-reduce.ensures) c.copy_columns.ensures.columns in
    record {
      form = h;
      reduced = reduced_is (8 * c.args.front) (8 * c.args.back) A (matrix c.args.back c.copy_columns.new.out) h;
      rest = c.copy_columns.ensures.rest;
      decided = sym (independent_found (8 * c.args.front) A h.injective);
    }
