use Rattle.std.proofs.Common.{◌≡◌, ℕ, ◌+◌, ◌-◌, ◌≤◌, List, ◌++◌, length, take, ap, ◌∙◌, append_assoc, arith}
use Rattle.std.proofs.Math.Path.{fun_ext}
use Rattle.std.proofs.lemmas.Slice.{take-put_mid}
use borrow.Rule.Slice.PartMut.{put_mid}
use Rattle.hashes.proofs.stream.Stream.push_all.Goals as goal

-- new, written after the bytes in use, comes before what follows
after : (digest : List ℕ → List ℕ) (block new rest xs : List ℕ) (used k n : ℕ) → new ≡ rest → n ≡ used + length new → used ≤ length block
    → digest (take n (put_mid used k block new) ++ xs) ≡ digest (take used block ++ (rest ++ xs))
after digest block new rest xs used k n e m h =
    ap (λ (x : List ℕ). digest (x ++ xs)) (take-put_mid used k block new n m h ∙ ap (λ x. take used block ++ x) e)
    ∙ ap digest (append_assoc (take used block) rest xs)

pub returns-clause-more : goal.returns-clause-more
returns-clause-more g c =
    let s = c.loop-self.self in
    fun_ext (λ xs.
    after (g.B.BlockFunction.digest s.state s.absorbed) s.block c.copy_from_slice-2.new.self c.loop-self.rest.now xs s.used
    (s.used + length c.loop-self.rest.now - s.used) (s.used + length c.loop-self.rest.now) c.copy_from_slice-2.ensures.after (omega arith) (omega arith)
    ∙ c.loop-self.invariant.more xs)
