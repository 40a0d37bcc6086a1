use Rattle.std.proofs.Common.{◌≡◌, ◌-◌, ◌*◌, get_or, length, arith}
use Rattle.bits.specs.Packed.{matrix}
use Rattle.matrices.specs.Columns.{bits_of, ColumnAdded}
use Rattle.matrices.proofs.Entries.{column_same}
use Rattle.goppa.specs.Matrix.{column_bits}
use Rattle.goppa.proofs.Matrices.{column_bits_lem}
use Rattle.goppa.proofs.mixed.add_code_column.Goals as goal

pub returns : goal.returns
returns g c =
    let f = g.F.Field.ops in
    let pl = g.F.Field.places in
    let bits = g.F.Field.BITS in
    let gs = c.args.code.now.g.now in
    let x = get_or c.args.code.now.support.now c.args.k 0 in
    let n = length c.args.column_of.now in
    let q = c.column.new.out in
    let en : length q ≡ n = omega arith in
    let added : ColumnAdded 0 (bits * n) (8 * c.args.width) c.args.j (bits_of bits q) (matrix c.args.width c.args.m.now) (matrix c.args.width c.add_column.new.m) =
    rw (c.BITS.ensures, en) at c.add_column.ensures in
    column_same 0 (bits * n) (8 * c.args.width) c.args.j (bits_of bits q) (column_bits f pl n gs x) (matrix c.args.width c.args.m.now)
    (matrix c.args.width c.add_column.new.m)
    (λ i l m. column_bits_lem f pl n gs q x c.column.ensures c.requires.field.1.0 (i - 0) (omega arith)) added
