use Rattle.std.proofs.Common.{◌+◌, length, arith}
use Rattle.std.proofs.lemmas.List.FromFn.{fill_by_all}
use Rattle.std.proofs.lemmas.List.Edits.{fill_by_more}
use Rattle.bits.specs.Words.{word}
use Rattle.soundness.specs.Parts.{words_from}
use Rattle.soundness.proofs.reading.read_words.Goals as goal

pub loop-i-preserved : goal.loop-i-preserved
loop-i-preserved c =
    rw c.word_at.ensures
    (fill_by_more (λ k. word c.args.key.now (c.args.from + k)) c.loop-i.out c.loop-i.i 0 (omega arith) c.loop-i.invariant)

pub returns : goal.returns
unfolding words_from
returns c =
    fill_by_all (λ k. word c.args.key.now (c.args.from + k)) c.loop-i.out (length c.args.out.now) 0 (omega arith) (λ k l. c.loop-i.invariant k (omega arith))
