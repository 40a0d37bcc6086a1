use Rattle.std.proofs.Common.{◌≡◌, ℕ, ◌*◌, ◌/◌, List, [], get_or, length, not, ap, sym, ◌∙◌, ap₂, arith, below_more}
use Rattle.bits.specs.Vectors.{Matrix}
use Rattle.bits.specs.Packed.{matrix}
use Rattle.bits.proofs.Elimination.{done_stuck, done_more}
use Rattle.bits.proofs.Search.{first_is, first_none}
use Rattle.shuffles.specs.Orders.{order}
use Rattle.goppa.specs.Matrix.{mixed_matrix}
use Rattle.keys.specs.Seeds.{seed_of}
use Rattle.matrices.proofs.Outcomes.{when_settled, when_none}
use Rattle.keys.proofs.Steps.{chunk_at}
use Rattle.keys.proofs.Testing.{front_dependent, front_independent}
use Rattle.keys.proofs.candidates.first_usable.Goals as goal

pub loop-c-preserved : goal.loop-c-preserved
loop-c-preserved g c =
    let r = 8 * c.args.body in
    done_more r r c.loop-c.c (matrix c.args.body c.write_mixed.new.m) (matrix c.args.body c.loop-c.square)
    (matrix c.args.body c.settle.new.m) c.loop-c.invariant
    (when_settled c.args.body r c.loop-c.c c.loop-c.c c.loop-c.square c.settle.new.m c.settle.result c.settle.ensures
    (c.is_err.ensures.negation ∙ ap not c.if-is_err.false)).1

pub seeds-preserved : goal.seeds-preserved
seeds-preserved g c =
    let w = c.args.body in
    let HP : ℕ → List ℕ → Matrix = λ t l. mixed_matrix g.F.Field.ops g.F.Field.places t c.args.code.now.g.now c.args.code.now.support.now l in
    let xs = c.write_mixed.new.m in
    let ec : length c.seeds.column ≡ length c.args.column.now = omega arith in
    let ep : length c.seeds.positions ≡ length c.args.positions.now = omega arith in
    let es : get_or c.as_chunks.result.0.now c.seeds.i [] ≡ seed_of c.args.seeds.now c.seeds.i =
    ap (λ (cs : List (List ℕ)). get_or cs c.seeds.i []) c.as_chunks.ensures.front
    ∙ chunk_at (length c.args.seeds.now / 32) c.seeds.i c.args.seeds.now (omega (arith, c.as_chunks.ensures.front_len)) in
    let eo : c.order_by.new.positions ≡ order (length c.args.positions.now) (seed_of c.args.seeds.now c.seeds.i) =
    c.order_by.ensures.after ∙ rw (ep, es) in
    let is : HP (length c.seeds.column) c.order_by.new.positions ≡ HP (length c.args.column.now) (order (length c.args.positions.now) (seed_of c.args.seeds.now c.seeds.i)) =
    ap₂ HP ec eo in
    below_more _ _ c.seeds.invariant
    (front_dependent w (g.F.Field.BITS * length c.seeds.column) xs _ _ (rw ec c.requires.field.1.1) is c.write_mixed.ensures
    (done_stuck (8 * w) (8 * w) c.loop-c.c (matrix w xs) (matrix w c.loop-c.square) (omega arith) (omega arith) c.loop-c.invariant
    (when_none w (8 * w) c.loop-c.c c.loop-c.c c.loop-c.square c.settle.new.m c.settle.result c.settle.ensures
    (c.is_err.ensures.negation ∙ ap not c.if-is_err.true)).1))

pub returns : goal.returns
returns g c = first_none _ _ (λ j l. c.seeds.invariant j (omega (arith, c.as_chunks.ensures.front_len)))

pub returns-in-seeds : goal.returns-in-seeds
returns-in-seeds g c =
    let w = c.args.body in
    let HP : ℕ → List ℕ → Matrix = λ t l. mixed_matrix g.F.Field.ops g.F.Field.places t c.args.code.now.g.now c.args.code.now.support.now l in
    let xs = c.write_mixed.new.m in
    let ec : length c.seeds.column ≡ length c.args.column.now = omega arith in
    let ep : length c.seeds.positions ≡ length c.args.positions.now = omega arith in
    let es : get_or c.as_chunks.result.0.now c.seeds.i [] ≡ seed_of c.args.seeds.now c.seeds.i =
    ap (λ (cs : List (List ℕ)). get_or cs c.seeds.i []) c.as_chunks.ensures.front
    ∙ chunk_at (length c.args.seeds.now / 32) c.seeds.i c.args.seeds.now (omega (arith, c.as_chunks.ensures.front_len)) in
    let eo : c.order_by.new.positions ≡ order (length c.args.positions.now) (seed_of c.args.seeds.now c.seeds.i) =
    c.order_by.ensures.after ∙ rw (ep, es) in
    let is : HP (length c.seeds.column) c.order_by.new.positions ≡ HP (length c.args.column.now) (order (length c.args.positions.now) (seed_of c.args.seeds.now c.seeds.i)) =
    ap₂ HP ec eo in (
      omega (arith, c.as_chunks.ensures.front_len),
      sym (first_is _ _ c.seeds.i (omega (arith, c.as_chunks.ensures.front_len)) c.seeds.invariant
          (λ l. front_independent w (g.F.Field.BITS * length c.seeds.column) xs _ _ (rw ec c.requires.field.1.1) is c.write_mixed.ensures
          c.loop-c.c (matrix w c.loop-c.square) (omega arith) c.loop-c.invariant)),
    )
