use Rattle.std.proofs.Common.{◌≡◌, ℕ, ◌*◌, ◌/◌, ◌%◌, ◌<◌, List, get_or, sym, ap, ◌∙◌, arith}
use Rattle.std.proofs.lemmas.List.{take_all}
use Rattle.bits.specs.Words.{word, word_bytes}
use Rattle.bits.proofs.Words.{no_words, words_more, word_back}
use Rattle.bits.proofs.write_words.Goals as goal

pub loop-i-init : goal.loop-i-init
loop-i-init c = sym no_words

pub loop-i-preserved : goal.loop-i-preserved
loop-i-preserved c =
    let x = get_or c.args.words.now c.loop-i.i 0 in
    let bs = c.to_be_bytes.result in
    let fits : x < 65536 = (c.type_inv.words c.loop-i.i).fits in
    let high : get_or bs 0 0 ≡ x / 256 = ap (λ (l : List ℕ). get_or l 0 0) c.to_be_bytes.ensures ∙ omega arith in
    let low : get_or bs 1 0 ≡ x % 256 = ap (λ (l : List ℕ). get_or l 1 0) c.to_be_bytes.ensures ∙ omega arith in
    rw high (words_more c.args.words.now c.loop-i.out c.loop-i.i (get_or bs 1 0) (omega arith) (omega arith) low c.loop-i.invariant)

pub returns : goal.returns
returns c =
    let xs = c.args.words.now in
    let e : c.loop-i.out ≡ word_bytes xs =
    sym (take_all (2 * c.loop-i.i) c.loop-i.out (omega arith)) ∙ (c.loop-i.invariant ∙ ap word_bytes (take_all c.loop-i.i xs (omega arith))) in
    record { bytes = e; back = λ i. ap (λ (l : List ℕ). word l i) e ∙ word_back xs i }
