use Rattle.std.proofs.Common.{◌≡◌, ◌*◌, sym, arith}
use Rattle.bits.proofs.Elimination.{cleared_skip, cleared_added, cleared_all}
use Rattle.bits.specs.Packed.{matrix}
use Rattle.matrices.proofs.Rows.{row_within, entry_within}
use Rattle.matrices.proofs.clear_column.Goals as goal
use Rattle.matrices.proofs.clear_column.Goals.{then-i-k+then-entry, else-i-k, else-i-k-via-then-i-k+else-entry, else-i-k-via-else-i-k}

pub entry-requires : goal.entry-requires
entry-requires c =
    entry_within c.args.width c.args.rows c.loop-i.i c.args.c c.loop-i.m (omega arith) (omega arith) (omega arith)

pub add_row-requires : goal.add_row-requires
add_row-requires c =
    record {
      within = (
        row_within c.args.width c.args.rows c.args.k c.loop-i.m (omega arith) (omega arith),
        row_within c.args.width c.args.rows c.loop-i.i c.loop-i.m (omega arith) (omega arith),
      );
      other = omega arith;
    }

pub loop-i-preserved : goal.loop-i-preserved
loop-i-preserved c =
    elim c.if-i-k.branch [
      | then-i-k+then-entry w ↦
          simp w.m-is
          (cleared_added c.args.rows (8 * c.args.width) c.args.k c.args.c c.loop-i.i (matrix c.args.width c.args.m.now)
          (matrix c.args.width c.loop-i.m) (matrix c.args.width w.add_row.new.m) (omega arith) (omega arith) (omega arith) w.if-i-k.true
          c.requires.low c.loop-i.invariant (sym w.if-entry.ensures) w.add_row.ensures)
      | else-i-k w ↦
          let skip =
          cleared_skip c.args.rows (8 * c.args.width) c.args.k c.args.c c.loop-i.i
          (matrix c.args.width c.args.m.now) (matrix c.args.width c.loop-i.m) c.loop-i.invariant in
          elim w.else-i-k.branch [
            | else-i-k-via-then-i-k+else-entry w' ↦ simp w.m-is (skip (λ _. sym w'.if-entry.ensures))
            | else-i-k-via-else-i-k w' ↦ simp w.m-is (skip (λ d. absurd (d w'.if-i-k.false)))
          ]
    ]

pub returns : goal.returns
returns c =
    let e : c.loop-i.i ≡ c.args.rows = omega arith in
    cleared_all c.args.rows (8 * c.args.width) c.args.k c.args.c (matrix c.args.width c.args.m.now) (matrix c.args.width c.loop-i.m)
    (rw e at c.loop-i.invariant)
