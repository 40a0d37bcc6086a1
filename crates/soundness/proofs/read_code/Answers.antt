use Rattle.std.proofs.Common.{ℕ, List, [], ◌∷◌, ◌++◌, ap, ◌∙◌, ap₂, arith}
use Rattle.soundness.specs.Parts.{words_from}
use Rattle.soundness.proofs.Numbers.{support_words, goppa_words, monic_set}
use Rattle.soundness.proofs.read_code.Goals as goal

pub returns : goal.returns
returns g c =
    let s = c.args.sizes.now in
    let key = c.args.key.now in
    let f = g.F.Field.ops in
    let pl = g.F.Field.places in
    record {
      support = c.read_words.ensures ∙ (ap (words_from key 0) (omega arith) ∙ support_words s key);
      g =
          monic_set s.t c.read_words-2.new.out c.args.g.now c.place.result (omega arith) (omega arith)
          ∙ (ap₂ (λ (x : List ℕ) y. x ++ (y ∷ [])) (c.read_words-2.ensures ∙ ap (words_from key s.n) (omega arith))
          (c.place.ensures ∙ ap pl.num c.one.ensures)
          ∙ goppa_words f pl s key);
    }
