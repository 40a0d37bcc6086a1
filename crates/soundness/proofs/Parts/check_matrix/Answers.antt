use Rattle.std.proofs.Common.{◌≡◌, ℕ, ◌*◌, ◌<◌, not, eqb, length, sym, refl, ap, ◌∙◌, arith}
use Rattle.bits.specs.Vectors.{◌⊕◌, Matrix, weight}
use Rattle.bits.specs.Packed.{matrix}
use Rattle.bits.specs.Search.{first_place}
use Rattle.shuffles.specs.Orders.{order}
use Rattle.keys.specs.Secret.{matrix_in, mixing_in, mixed_in}
use Rattle.soundness.proofs.Numbers.{mixed_front, matrix_part, order_read, difference_number, rank_number}
use Rattle.soundness.proofs.Chains.{matrix_fails, rank_fails, matrix_passes}
use Rattle.levels.proofs.Table.{lawful}
use Rattle.soundness.proofs.Parts.check_matrix.Goals as goal

pub write_mixed-requires-clause-order : goal.write_mixed-requires-clause-order
write_mixed-requires-clause-order g c =
    let h = lawful c.args.self.now.sizes in
    let p = c.order_by.ensures.permutes in
    (omega (arith, h.body, h.columns), λ j l. omega (arith, h.body, h.columns, p.below j (omega (arith, h.body, h.columns))))

pub returns-in-Some-first_difference : goal.returns-in-Some-first_difference
returns-in-Some-first_difference g c =
    let s = c.args.self.now.sizes in
    let key = c.args.key.now in
    let h = lawful c.args.self.now.sizes in
    let f = g.F.Field.ops in
    let pl = g.F.Field.places in
    let B = matrix s.body c.write_mixed.new.m in
    let HP : Matrix = mixed_in f pl s key in
    let at = c.in-Some-first_difference.at in
    let l : c.order_by.new.positions ≡ order s.n (mixing_in s key) =
    order_read s key c.order_by.new.positions c.in-Some.seed.now (length c.args.self.now.order.now) (omega arith) c.in-Some.ensures.cases.same c.order_by.ensures.after in
    let same : (i j : ℕ) → i < s.rows → j < s.rows → B i j ≡ HP i j =
    mixed_front f pl s key c.args.code.now.support.now c.args.code.now.g.now c.requires.code.1 c.requires.code.0 h g.F.Field.BITS (length c.args.self.now.column.now) B c.order_by.new.positions
    (mixing_in s key) c.requires.key.0 (omega arith) l refl c.write_mixed.ensures in
    let e₁ =
    difference_number s.rows (matrix_in s key) at (8 * s.body) B HP h.body same
    (c.in-Some-first_difference.ensures.1 ∙ ap (λ (M : Matrix). first_place s.rows (λ i. not (eqb (weight (8 * s.body) (λ j. M i j ⊕ B i j)) 0))) (matrix_part s key)) in
    matrix_fails f pl s key at e₁ c.in-Some-first_difference.ensures.0

pub returns-then-found-sizes : goal.returns-then-found-sizes
returns-then-found-sizes g c =
    let s = c.args.self.now.sizes in
    let key = c.args.key.now in
    let h = lawful c.args.self.now.sizes in
    let f = g.F.Field.ops in
    let pl = g.F.Field.places in
    let B = matrix s.body c.write_mixed.new.m in
    let HP : Matrix = mixed_in f pl s key in
    let at = s.rows in
    let l : c.order_by.new.positions ≡ order s.n (mixing_in s key) =
    order_read s key c.order_by.new.positions c.in-Some.seed.now (length c.args.self.now.order.now) (omega arith) c.in-Some.ensures.cases.same c.order_by.ensures.after in
    let same : (i j : ℕ) → i < s.rows → j < s.rows → B i j ≡ HP i j =
    mixed_front f pl s key c.args.code.now.support.now c.args.code.now.g.now c.requires.code.1 c.requires.code.0 h g.F.Field.BITS (length c.args.self.now.column.now) B c.order_by.new.positions
    (mixing_in s key) c.requires.key.0 (omega arith) l refl c.write_mixed.ensures in
    let e₁ =
    difference_number s.rows (matrix_in s key) at (8 * s.body) B HP h.body same
    (sym c.in_default-first_difference.ensures ∙ ap (λ (M : Matrix). first_place s.rows (λ i. not (eqb (weight (8 * s.body) (λ j. M i j ⊕ B i j)) 0))) (matrix_part s key)) in
    let e₂ = rank_number s.rows (matrix_in s key) at c.rank-found.result (8 * s.body) B HP h.body same e₁ (omega arith) c.rank-found.ensures.number in
    rank_fails f pl s key at e₁ (omega arith) c.rank-found.result e₂ c.if-found-sizes.true

pub returns : goal.returns
returns g c =
    let s = c.args.self.now.sizes in
    let key = c.args.key.now in
    let h = lawful c.args.self.now.sizes in
    let f = g.F.Field.ops in
    let pl = g.F.Field.places in
    let B = matrix s.body c.write_mixed.new.m in
    let HP : Matrix = mixed_in f pl s key in
    let at = s.rows in
    let l : c.order_by.new.positions ≡ order s.n (mixing_in s key) =
    order_read s key c.order_by.new.positions c.in-Some.seed.now (length c.args.self.now.order.now) (omega arith) c.in-Some.ensures.cases.same c.order_by.ensures.after in
    let same : (i j : ℕ) → i < s.rows → j < s.rows → B i j ≡ HP i j =
    mixed_front f pl s key c.args.code.now.support.now c.args.code.now.g.now c.requires.code.1 c.requires.code.0 h g.F.Field.BITS (length c.args.self.now.column.now) B c.order_by.new.positions
    (mixing_in s key) c.requires.key.0 (omega arith) l refl c.write_mixed.ensures in
    let e₁ =
    difference_number s.rows (matrix_in s key) at (8 * s.body) B HP h.body same
    (sym c.in_default-first_difference.ensures ∙ ap (λ (M : Matrix). first_place s.rows (λ i. not (eqb (weight (8 * s.body) (λ j. M i j ⊕ B i j)) 0))) (matrix_part s key)) in
    let e₂ = rank_number s.rows (matrix_in s key) at c.rank-found.result (8 * s.body) B HP h.body same e₁ (omega arith) c.rank-found.ensures.number in
    matrix_passes f pl s key at e₁ (omega arith) c.rank-found.result e₂ c.if-found-sizes.false
