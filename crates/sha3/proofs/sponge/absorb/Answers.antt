use Rattle.std.proofs.Common.{◌≡◌, ℕ, ◌*◌, List, [], length, get_or, take, drop, ap, ◌∙◌, arith, get_or-set_other}
use Rattle.std.specs.Prelude.{bit_xor}
use Rattle.std.proofs.lemmas.List.{length-set, length-take, length-drop}
use Rattle.hashes.specs.Chunks.{chunk_at}
use Rattle.sha3.specs.Keccak.{permuted}
use Rattle.sha3.specs.Sponge.{lane_of}
use Rattle.sha3.specs.Blocks.{lane, mixed_more, mixed_all}
use Rattle.sha3.proofs.sponge.absorb.Goals as goal

pub loop-i-preserved : goal.loop-i-preserved
loop-i-preserved c =
    let i : ℕ = c.loop-i.i in
    let y : ℕ = bit_xor (get_or c.loop-i.a i 0) c.from_le_bytes.result in
    let bytes : get_or c.as_chunks.result.0.now i [] ≡ take 8 (drop (8 * i) c.args.block.now) =
    ap (λ (x : List (List ℕ)). get_or x i []) c.as_chunks.ensures.front ∙ chunk_at 8 _ i c.args.block.now (omega arith) in
    record {
      long = length-set c.loop-i.a i y ∙ c.loop-i.invariant.long;
      done = mixed_more c.args.a.now c.loop-i.a c.args.block.now i c.from_le_bytes.result (omega arith)
          (c.from_le_bytes.ensures ∙ lane (get_or c.as_chunks.result.0.now i []) (ap length bytes ∙ simp (length-take, length-drop) (omega arith)) ∙ ap lane_of bytes)
          (c.loop-i.invariant.rest i (omega arith)) c.loop-i.invariant.done;
      rest = λ k h. get_or-set_other c.loop-i.a i k y 0 (omega arith) ∙ c.loop-i.invariant.rest k (omega arith);
    }

pub returns : goal.returns
returns c =
    c.permute.ensures
    ∙ ap permuted (mixed_all c.args.a.now c.loop-i.a c.args.block.now c.loop-i.i (omega arith) (omega arith) c.loop-i.invariant.long c.loop-i.invariant.done c.loop-i.invariant.rest)
