use Rattle.std.proofs.Common.{◌≡◌, ◌+◌, ◌-◌, ◌*◌, ◌/◌, ◌^◌, Bool, eqb, ap, arith}
use lib.Bits.{bit_and, and_mask}
use Rattle.bits.specs.Packed.{matrix}
use Rattle.matrices.specs.Columns.{number_bit}
use Rattle.matrices.proofs.Bytes.{row_before}
use Rattle.matrices.proofs.Entries.{column_none, column_one, column_join}
use Rattle.matrices.proofs.columns.add_number.Goals as goal

pub add_entry-requires : goal.add_entry-requires
add_entry-requires c = (
  omega (arith, row_before c.args.width (c.args.row + c.loop-i.i) (c.args.row + c.args.some) (omega arith)),
  c.requires.column,
)

pub loop-i-init : goal.loop-i-init
loop-i-init c =
    let e : c.args.row + 0 ≡ c.args.row = omega arith in
    rw e (column_none c.args.row (8 * c.args.width) c.args.col (number_bit c.args.x) (matrix c.args.width c.args.m.now))

pub loop-i-preserved : goal.loop-i-preserved
unfolding number_bit
loop-i-preserved c =
    let s = c.args.row + c.loop-i.i in
    let b : Bool = eqb (bit_and (c.args.x / 2 ^ c.loop-i.i) 1) 1 in
    let e : c.args.row + (c.loop-i.i + 1) ≡ s + 1 = omega arith in
    rw e
    (column_join c.args.row s (s + 1) (8 * c.args.width) c.args.col (number_bit c.args.x) (λ _. b) (matrix c.args.width c.args.m.now)
    (matrix c.args.width c.loop-i.m) (matrix c.args.width c.add_entry.new.m) (omega arith) (omega arith)
    (λ i l m. let q : i - c.args.row ≡ c.loop-i.i = omega arith in rw q (ap (λ y. eqb y 1) (and_mask (c.args.x / 2 ^ c.loop-i.i) 1)))
    c.loop-i.invariant
    (column_one s (8 * c.args.width) c.args.col b (matrix c.args.width c.loop-i.m) (matrix c.args.width c.add_entry.new.m) c.add_entry.ensures))

pub returns : goal.returns
returns c = let e : c.loop-i.i ≡ c.args.some = omega arith in rw e at c.loop-i.invariant
