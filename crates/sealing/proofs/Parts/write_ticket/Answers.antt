use Rattle.std.proofs.Common.{◌∙◌}
use Rattle.bits.specs.Packed.{vector}
use Rattle.sealing.specs.Calls.{public_matrix}
use Rattle.sealing.proofs.Tickets.{head_is, seals}
use Rattle.sealing.proofs.Parts.write_ticket.Goals as goal

pub returns-clause-wrote : goal.returns-clause-wrote
returns-clause-wrote g c =
    let s = c.args.self.now.sizes in
    let e = c.args.e.now in
    seals s (g.H.Hash.rule c.args.hash.now) (public_matrix s c.args.public_key.now) (vector e) c.write_head.new.head
    c.write_body.new.self.body.now c.join.new.out c.join.ensures
    (c.write_head.ensures.wrote ∙ head_is s (g.H.Hash.rule c.args.hash.now) e c.requires.inputs.1 (λ k. (c.type_inv.e k).fits))
    c.write_body.ensures.body
