use Rattle.std.proofs.Common.{◌≡◌, ◌++◌, length, codes, ap, ◌∙◌}
use Rattle.sealing.specs.Tickets.{Rule}
use Rattle.levels.proofs.Table.{lawful}
use Rattle.sealing.proofs.Tickets.{sealed}
use Rattle.sealing.proofs.Parts.seal.Goals as goal

pub returns : goal.returns
returns g c =
    let s = c.args.self.now.sizes in
    let rule : Rule = g.H.Hash.rule c.args.hash.now in
    let seed = c.args.ticket_seed.now in
    let q : length c.args.e.now ≡ s.vector = c.requires.vector in
    let n : length c.args.self.now.order.now ≡ s.n = c.args.self.now.positions in
    let same : g.H.Hash.rule c.write_ticket.new.hash ≡ rule = c.write_ticket.ensures.restarted.same in
    let kept : g.H.Hash.capacity c.write_ticket.new.hash ≡ g.H.Hash.capacity c.args.hash.now = c.write_ticket.ensures.restarted.kept in
    let ticket = c.write_ticket.new.ticket in
    record {
      sealed =
          sealed s (lawful s) rule c.args.public_key.now seed c.error_vector.new.out ticket c.copy_from_slice.new.self
          (c.error_vector.ensures.after ∙ rw (q, n))
          (rw n at c.error_vector.ensures.weighs)
          c.write_ticket.ensures.wrote
          (c.copy_from_slice.ensures.after
          ∙ (c.write_key.ensures.wrote
          ∙ ap (λ (r : Rule). r (codes "PALOMAHH" ++ (c.error_vector.new.out ++ ticket))) same));
      restarted = record {
        fresh = c.write_key.ensures.restarted.fresh ∙ kept;
        ruled = c.write_key.ensures.restarted.ruled ∙ same;
        same = c.write_key.ensures.restarted.same ∙ same;
        kept = c.write_key.ensures.restarted.kept ∙ kept;
      };
    }
