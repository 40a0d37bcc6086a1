use Rattle.std.proofs.Common.{◌≡◌, ℕ, zero, suc, ◌+◌, ◌-◌, ◌*◌, ◌^◌, ◌<◌, Bool, ap, ◌∙◌, pow-suc, arith}
use mir.Val.{bool_byte}
use Rattle.bits.specs.Packed.{vector}
use Rattle.matrices.specs.Columns.{number_bit}
use Rattle.decoder.proofs.Numbers.{joined_first, joined_rest, byte_small}
use Rattle.decoder.proofs.syndromes.number_at.Goals as goal

-- one bit more before d bits
below_more : (x d n : ℕ) (b : Bool) → n ≡ suc d → x < 2 ^ d → 2 * x + bool_byte b < 2 ^ n
below_more x d n b e h = rw (e, pow-suc 2 d) (omega (arith, byte_small b))

bits-more : (x d n : ℕ) (b : Bool) (v : ℕ → Bool) (p : ℕ) → n ≡ suc d → b ≡ v p → ((j : ℕ) → j < d → number_bit x j ≡ v (suc (p + j))) → (j : ℕ) → j < n → number_bit (2 * x + bool_byte b) j ≡ v (p + j)
bits-more x d n b v p e first rest zero l = let q : p ≡ p + 0 = omega arith in joined_first x b ∙ first ∙ ap v q
bits-more x d n b v p e first rest (suc j) l = let q : suc (p + j) ≡ p + suc j = omega arith in joined_rest x b j ∙ rest j (omega arith) ∙ ap v q

pub loop-i-preserved : goal.loop-i-preserved
loop-i-preserved c =
    let v = vector c.args.bytes.now in
    let i = c.loop-i.i - 1 in
    let d = c.args.count - c.loop-i.i in
    let up : c.args.count - i ≡ suc d = omega arith in
    let p = c.args.from + i in (
      below_more c.loop-i.x d (c.args.count - i) c.bit.result up c.loop-i.invariant.0,
      λ j l.
          let q : c.args.from + i + j ≡ c.args.from + (i + j) = omega arith in
          bits-more c.loop-i.x d (c.args.count - i) c.bit.result v p up c.bit.ensures
          (λ k b. let w : c.args.from + (c.loop-i.i + k) ≡ suc (p + k) = omega arith in c.loop-i.invariant.1 k b ∙ ap v w) j l ∙ ap v q,
    )
