use Rattle.std.proofs.Common.{◌∙◌}
use Rattle.bits.specs.Vectors.{Matrix}
use Rattle.bits.specs.Packed.{matrix}
use Rattle.keys.specs.Secret.{mixed_by}
use Rattle.keys.proofs.Forms.{mixed_independent, mixed_public, mixed_secret}
use Rattle.levels.proofs.Table.{lawful}
use Rattle.keys.proofs.making.Parts.write_pair.Goals as goal

pub write_keys-requires-clause-front : goal.write_keys-requires-clause-front
write_keys-requires-clause-front g c =
    let s = c.args.self.now.sizes in
    let HP : Matrix = mixed_by g.F.Field.ops g.F.Field.places s c.args.code.now.support.now c.args.code.now.g.now c.args.mixing.now in
    rw c.write_hp.ensures.same
    (mixed_independent s (lawful s) (matrix s.vector c.write_hp.new.self.hp.now) HP c.write_hp.ensures.hp c.requires.usable)

pub returns : goal.returns
returns g c =
    let s = c.args.self.now.sizes in
    let h = lawful s in
    let B = matrix s.vector c.write_hp.new.self.hp.now in
    let HP : Matrix = mixed_by g.F.Field.ops g.F.Field.places s c.args.code.now.support.now c.args.code.now.g.now c.args.mixing.now in
    record {
      public = (rw c.write_hp.ensures.same at c.write_keys.ensures.public) ∙ mixed_public s h B HP c.write_hp.ensures.hp;
      secret = (rw c.write_hp.ensures.same at c.write_keys.ensures.secret) ∙ mixed_secret s h B HP c.write_hp.ensures.hp c.args.code.now.support.now c.args.code.now.g.now c.args.mixing.now c.args.decoy.now;
    }
