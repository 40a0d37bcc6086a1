use Rattle.std.proofs.Common.{ℕ, map, sym, refl, ◌∙◌, subst, rules}
use Rattle.bits.specs.Packed.{vector}
use Rattle.matrices.specs.Columns.{bits_of}
use Rattle.polys.specs.Values.{value}
use Rattle.patterson.specs.Code.{Perfect}
use Rattle.patterson.proofs.Numbered.{same_from}
use Rattle.patterson.proofs.Vectors.{false_not_true}
use Rattle.decoder.specs.Errors.{ErrorOf}
use Rattle.decoder.proofs.Lists.{goppa_code}
use Rattle.decoder.proofs.Decided.{none_left, accepted, refused}
use Rattle.decoder.proofs.decode_places.Goals as goal

perfect : (g : Rattle.decoder.proofs.decode_places.Given.Over) → Perfect g.F.Field.ops
perfect g = record { laws = g.met.F.Field.laws; same = same_from g.F.Field.places; roots = g.met.F.BinaryField.roots }

pub returns-in_err-locate_within : goal.returns-in_err-locate_within
returns-in_err-locate_within g c =
    let f = g.F.Field.ops in
    let pl = g.F.Field.places in
    let t = c.args.t in
    let G = c.args.code.now.g.now in
    let sup = c.args.code.now.support.now in
    let s = c.args.s.now in
    let zs = c.requires.code.0.0 in
    let code = c.requires.code.0.1 in
    let some = c.requires.code.1.1.1 in
    rw c.from_residual.ensures (
      none_left (perfect g) pl g.met.F.Field.origin g.met.F.Field.sums t G sup zs s (bits_of g.F.Field.BITS s) c.requires.code.1.0 c.requires.syndrome.0 some
          c.requires.syndrome.1.1 c.requires.syndrome.1.0 (λ i l. refl) code
          (c.in_err-locate_within.ensures (map pl.at zs) (map pl.at sup) (goppa_code f pl t G sup zs some code)),
      search rules,
    )

pub returns-then-not-is_error : goal.returns-then-not-is_error
returns-then-not-is_error g c =
    let f = g.F.Field.ops in
    let pl = g.F.Field.places in
    let t = c.args.t in
    let G = c.args.code.now.g.now in
    let sup = c.args.code.now.support.now in
    let s = c.args.s.now in
    let zs = c.requires.code.0.0 in
    let code = c.requires.code.0.1 in
    let some = c.requires.code.1.1.1 in
    let e = vector c.mark_zeros.new.out in
    let is = bits_of g.F.Field.BITS s in (
      refused (perfect g) pl g.met.F.Field.origin g.met.F.Field.sums t G sup zs s is c.requires.code.1.0 c.requires.syndrome.0 some
          c.requires.syndrome.1.1 c.requires.syndrome.1.0 (λ i l. refl) code
          (value f pl c.locate_within.new.out) (c.in_ok-locate_within.ensures (map pl.at zs) (map pl.at sup) (goppa_code f pl t G sup zs some code))
          e c.mark_zeros.ensures
          (λ h. false_not_true (sym c.if-not-is_error.true ∙ c.is_error.ensures.1 (subst (λ (n : ℕ). ErrorOf f pl n G sup is e) (sym c.requires.syndrome.0) h))),
      search rules,
    )

pub returns : goal.returns
returns g c =
    let f = g.F.Field.ops in
    let pl = g.F.Field.places in
    let t = c.args.t in
    let G = c.args.code.now.g.now in
    let sup = c.args.code.now.support.now in
    let s = c.args.s.now in
    let zs = c.requires.code.0.0 in
    let code = c.requires.code.0.1 in
    let some = c.requires.code.1.1.1 in
    let e = vector c.mark_zeros.new.out in
    let is = bits_of g.F.Field.BITS s in
    accepted (perfect g) pl g.met.F.Field.origin g.met.F.Field.sums t G sup zs s is c.requires.code.1.0 c.requires.syndrome.0 some
    c.requires.syndrome.1.1 c.requires.syndrome.1.0 (λ i l. refl) code
    (value f pl c.locate_within.new.out) (c.in_ok-locate_within.ensures (map pl.at zs) (map pl.at sup) (goppa_code f pl t G sup zs some code))
    e c.mark_zeros.ensures
    (subst (λ (n : ℕ). ErrorOf f pl n G sup is e) c.requires.syndrome.0 (c.is_error.ensures.0 c.if-not-is_error.false))
