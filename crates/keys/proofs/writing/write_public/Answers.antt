use Rattle.std.proofs.Common.{◌-◌, arith}
use Rattle.bits.specs.Packed.{matrix}
use Rattle.bits.specs.Reduced.{reduced_of}
use Rattle.bits.proofs.MatrixBytes.{matrix_bytes_is}
use Rattle.keys.proofs.Forms.{written_form}
use Rattle.levels.proofs.Table.{lawful}
use Rattle.keys.proofs.writing.write_public.Goals as goal

pub returns : goal.returns
returns c =
    let s = c.args.sizes.now in
    let h = lawful c.args.sizes.now in
    let hp = c.args.hp.now in
    let out = c.echelon.new.out in
    matrix_bytes_is s.rows (s.vector - s.body) (reduced_of s.rows (matrix s.vector hp)) out (omega (arith, h.matrix))
    (λ k. (c.type_inv.out k).fits)
    (written_form s h c.echelon.result hp out c.echelon.ensures.reduced c.echelon.ensures.decided c.requires.front)
