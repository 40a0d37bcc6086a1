use Rattle.std.proofs.Common.{◌≡◌, ℕ, ◌*◌, ◌<◌, Some, None, List, length, sym, refl, ap, ◌∙◌, subst, arith}
use Rattle.bits.specs.Vectors.{Matrix}
use Rattle.bits.specs.Kernels.{independent, Echelon}
use Rattle.bits.specs.Reduced.{reduced_of}
use Rattle.sealing.specs.Calls.{public_matrix}
use Rattle.keys.specs.Secret.{public_key_of}
use Rattle.keys.specs.Seeds.{taken_of, count_of, seed_of, mixed_of, secret_key_of}
use Rattle.keys.proofs.Forms.{public_echelon}
use Rattle.keys.proofs.Goppa.{code_fits}
use Rattle.keys.proofs.Pairs.{pair}
use Rattle.keys.proofs.Steps.{square_fits, bits_rows, taken_same, none_usable, one_usable, taken_usable, seed_length, mixed_is, secret_is}
use Rattle.levels.proofs.Table.{lawful}
use Rattle.keys.proofs.making.Parts.make.Goals as goal

pub first_usable-requires : goal.first_usable-requires
first_usable-requires g c =
    let s = c.args.self.now.sizes in
    let h = lawful s in
    record {
      code = (omega arith, omega (arith, h.corrects));
      field = (
        omega (arith, h.narrow, c.requires.field),
        (omega (arith, h.positive, c.requires.field), bits_rows s h g.F.Field.BITS (length c.args.self.now.column.now) c.requires.field (omega arith)),
      );
      rows = (omega (arith, square_fits s h), omega (arith, h.body, h.columns, h.small));
      order = (omega arith, (omega (arith, h.body, h.columns), omega (arith, h.small)));
    }

pub returns-in_default : goal.returns-in_default
returns-in_default g c =
    let s = c.args.self.now.sizes in
    let code = c.args.seeds.now.code.now in
    let seeds = c.args.seeds.now.mixing.now in
    let f = g.F.Field.ops in
    let pl = g.F.Field.places in
    let made = c.write_code-code in
    let none =
    taken_same f pl s code seeds None (8 * s.body) (length c.args.self.now.column.now) (length c.args.self.now.order.now)
    made.result.g.now made.result.support.now (sym (lawful s).body) (omega arith) (omega arith) made.ensures.g made.ensures.support c.in_default.ensures in
    record { answer = none_usable f pl s code seeds none; gives = (refl, refl) }

pub write_taken-requires-clause-usable : goal.write_taken-requires-clause-usable
write_taken-requires-clause-usable g c =
    let s = c.args.self.now.sizes in
    let code = c.args.seeds.now.code.now in
    let seeds = c.args.seeds.now.mixing.now in
    let f = g.F.Field.ops in
    let pl = g.F.Field.places in
    let made = c.write_code-code in
    let is =
    taken_same f pl s code seeds (Some c.in-Some.taken) (8 * s.body) (length c.args.self.now.column.now) (length c.args.self.now.order.now)
    made.result.g.now made.result.support.now (sym (lawful s).body) (omega arith) (omega arith) made.ensures.g made.ensures.support c.in-Some.ensures in
    ap (independent s.rows) (mixed_is f pl s code seeds made.result.g.now made.result.support.now c.in-Some.taken made.ensures.g made.ensures.support is.1)
    ∙ taken_usable f pl s code seeds (omega (arith, is.0, is.1))

pub returns : goal.returns
returns g c =
    let s = c.args.self.now.sizes in
    let h = lawful s in
    let code = c.args.seeds.now.code.now in
    let seeds = c.args.seeds.now.mixing.now in
    let decoy = c.args.seeds.now.decoy.now in
    let f = g.F.Field.ops in
    let pl = g.F.Field.places in
    let made = c.write_code-code in
    let taken = c.in-Some.taken in
    let is =
    taken_same f pl s code seeds (Some taken) (8 * s.body) (length c.args.self.now.column.now) (length c.args.self.now.order.now)
    made.result.g.now made.result.support.now (sym h.body) (omega arith) (omega arith) made.ensures.g made.ensures.support c.in-Some.ensures in
    let lt : taken_of f pl s code seeds < count_of seeds = omega (arith, is.0, is.1) in
    let mixing = seed_of seeds (taken_of f pl s code seeds) in
    let HP : Matrix = mixed_of f pl s code mixing in
    let public : c.write_taken.new.public_key ≡ public_key_of s (reduced_of s.rows HP) =
    c.write_taken.ensures.public
    ∙ ap (λ (B : Matrix). public_key_of s (reduced_of s.rows B)) (mixed_is f pl s code seeds made.result.g.now made.result.support.now taken made.ensures.g made.ensures.support is.1) in
    let secret : c.write_taken.new.secret_key ≡ secret_key_of f pl s code mixing decoy =
    c.write_taken.ensures.secret
    ∙ secret_is f pl s code seeds made.result.g.now made.result.support.now taken made.ensures.g made.ensures.support is.1 decoy in
    let P : List ℕ → Type 0 = λ x. Echelon s.rows s.k HP (public_matrix s x) in
    let form : P c.write_taken.new.public_key = subst P (sym public) (public_echelon s h HP (taken_usable f pl s code seeds lt)) in
    record {
      answer = one_usable f pl s code seeds taken is.1 is.0;
      gives =
          pair g.met.F.Field.laws pl g.met.F.Field.origin s code (code_fits g.F.Field.BITS s h (sym c.requires.field)) h mixing decoy
          (seed_length seeds (taken_of f pl s code seeds) lt) c.args.seeds.now.whole
          c.write_taken.new.public_key c.write_taken.new.secret_key public secret form;
    }
