use Rattle.std.proofs.Common.{ap, ◌∙◌, arith}
use Rattle.bits.specs.Packed.{matrix}
use Rattle.bits.proofs.MatrixBytes.{matrix_bytes_is}
use Rattle.keys.proofs.writing.write_front.Goals as goal

pub returns : goal.returns
returns c =
    matrix_bytes_is c.args.rows c.args.some (matrix c.args.width c.args.m.now) c.copy_columns.new.out (omega arith)
    (λ k. (c.type_inv.out k).fits)
    (λ i j l m. c.copy_columns.ensures.columns i j l m ∙ ap (matrix c.args.width c.args.m.now i) (omega arith))
