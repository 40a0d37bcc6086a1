use Rattle.std.proofs.Common.{◌≡◌, length, get_or, sym, refl, ap, ◌∙◌, arith}
use Rattle.std.specs.Cmp.{unsigned_Decides}
use Rattle.std.proofs.lemmas.List.{ext_get_or}
use Rattle.std.proofs.lemmas.Slice.Eq.{slice_eq-Decides}
use Rattle.bits.specs.Packed.{vector}
use Rattle.matrices.specs.Columns.{bits_of}
use Rattle.decoder.specs.Sums.{column_sum}
use Rattle.decoder.proofs.Bridge.{sums_are, sums_from}
use Rattle.decoder.proofs.candidates.is_error.Goals as goal

pub returns : goal.returns
returns g c =
    let k = g.met.F.Field.laws in
    let f = g.F.Field.ops in
    let pl = g.F.Field.places in
    let z = g.met.F.Field.origin in
    let xor = g.met.F.Field.sums in
    let m = g.F.Field.BITS in
    let G = c.args.code.now.g.now in
    let sup = c.args.code.now.support.now in
    let s = c.args.s.now in
    let e = vector c.args.e.now in
    let sum = c.add_columns.new.sum in
    let t = length s in
    let en : length c.args.sum.now ≡ t = c.requires.fits.1.0 in
    let pos = c.requires.syndrome.1 in
    let placed = c.requires.syndrome.0 in
    let made = c.add_columns.ensures in
    let decides = slice_eq-Decides unsigned_Decides sum s c.eq.result c.eq.ensures in (
      λ same. record {
        weighs = omega arith;
        sums = sums_from k pl z xor t G sup s (bits_of m s) pos placed (λ i l. refl) e
            (λ r l. ap (λ xs. get_or xs r 0) (sym (decides.0 same)) ∙ made r (omega arith) ∙ ap (λ n. pl.num (column_sum f pl n G sup (length sup) e r)) en);
      },
      λ h. decides.1 (ext_get_or 0 sum s (omega arith)
          (λ r l. made r (omega arith) ∙ ap (λ n. pl.num (column_sum f pl n G sup (length sup) e r)) en
          ∙ sym (sums_are k pl z xor t G sup s (bits_of m s) pos placed (λ i l. refl) e h.sums r (omega arith)))),
    )
