use Rattle.std.proofs.Common.{◌≡◌, ℕ, ◌<◌, ◌≤◌, length, get_or}
use Rattle.sha3.specs.Sponge.{mixed_at}
use Rattle.sha3.proofs.sponge.absorb.Given as goal

abbrev pub invariant-loop-i : goal.invariant-loop-i
invariant-loop-i l = record {
  long : length l.a ≡ 25;
  done : (k : ℕ) → k < l.i → get_or l.a k 0 ≡ mixed_at l.initial.a l.block k;
  rest : (k : ℕ) → l.i ≤ k → get_or l.a k 0 ≡ get_or l.initial.a k 0;
}
