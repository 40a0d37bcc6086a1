use Rattle.std.proofs.Common.{◌≡◌, ℕ, ◌+◌, ◌*◌, ◌<◌, List, [], length, get_or, take, drop, set, sym, ap, ◌∙◌, subst, arith}
use Rattle.std.proofs.lemmas.List.{length-set, length-take, length-drop}
use Rattle.std.proofs.lemmas.List.Edits.{fill_by_more}
use Rattle.hashes.specs.Chunks.{chunk_at}
use Rattle.sha512.specs.Sha512.{big_endian}
use Rattle.sha512.proofs.Schedules.{word_is, words_all}
use Rattle.sha512.proofs.compression.words_of.Goals as goal

pub loop-i-preserved : goal.loop-i-preserved
loop-i-preserved c =
    let i : ℕ = c.loop-i.i in
    let f : ℕ → ℕ = λ k. big_endian (take 8 (drop (8 * k) c.args.block.now)) in
    let P : List ℕ → Type 0 = λ xs. (k : ℕ) → k < i + 1 → get_or xs k 0 ≡ f k in
    let bytes : get_or c.as_chunks.result.0.now i [] ≡ take 8 (drop (8 * i) c.args.block.now) =
    ap (λ (x : List (List ℕ)). get_or x i []) c.as_chunks.ensures.front ∙ chunk_at 8 _ i c.args.block.now (omega arith) in
    let word : c.from_be_bytes.result ≡ f i =
    c.from_be_bytes.ensures ∙ word_is (get_or c.as_chunks.result.0.now i []) (ap length bytes ∙ simp (length-take, length-drop) (omega arith)) ∙ ap big_endian bytes in
    record {
      long = length-set c.loop-i.w i c.from_be_bytes.result ∙ c.loop-i.invariant.long;
      done = subst P (ap (set c.loop-i.w i) (sym word)) (fill_by_more f c.loop-i.w i 0 (omega arith) c.loop-i.invariant.done);
    }

pub returns : goal.returns
returns c = words_all c.args.block.now c.loop-i.w (omega arith) (λ k h. c.loop-i.invariant.done k (omega arith))
