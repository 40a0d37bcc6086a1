use Rattle.std.proofs.Common.{◌≡◌, ℕ, ◌-◌, ◌*◌, List, length, ap, ◌∙◌, arith}
use Rattle.bits.specs.Vectors.{times, systematic}
use Rattle.bits.specs.Packed.{vector, matrix, packed}
use Rattle.levels.proofs.Table.{lawful}
use Rattle.sealing.proofs.Tickets.{body_is}
use Rattle.sealing.proofs.Parts.write_body.Goals as goal

pub systematic_product-requires : goal.systematic_product-requires
systematic_product-requires c =
    let s = c.args.self.now.sizes in
    let h = (lawful c.args.self.now.sizes) in
    let b : 8 * length c.args.self.now.body.now ≡ s.rows = omega (arith, h.body) in
    let w : length c.perm_by.new.out - length c.args.self.now.body.now ≡ s.vector - s.body = omega arith in
    record { small = (omega (arith, h.shorter), omega (arith, h.body, h.columns, h.small)); within = rw (b, w) (omega (arith, h.matrix)) }

pub returns-clause-body : goal.returns-clause-body
returns-clause-body c =
    let s = c.args.self.now.sizes in
    let r = length c.args.self.now.body.now in
    let q = length c.args.self.now.permuted.now in
    let m = c.args.public_key.now in
    let long : length c.perm_by.new.out ≡ q = omega arith in
    let F : ℕ → List ℕ → List ℕ = λ n x. packed r (times (8 * n) (systematic (8 * r) (matrix (n - r) m)) (vector x)) in
    c.systematic_product.ensures
    ∙ (ap (λ n. F n c.perm_by.new.out) long
    ∙ (ap (F q) c.perm_by.ensures.after
    ∙ body_is s (lawful c.args.self.now.sizes) m c.args.head.now c.args.e.now r q (length c.args.self.now.order.now) (omega arith) (omega arith) (omega arith)))
