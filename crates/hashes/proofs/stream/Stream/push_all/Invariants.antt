use Rattle.std.proofs.Common.{◌≡◌, ℕ, ◌+◌, ◌*◌, List, ◌++◌, length, take}
use Rattle.hashes.proofs.stream.Stream.push_all.Given as goal

abbrev pub invariant-loop-self : goal.invariant-loop-self
invariant-loop-self g l = record {
  long : length l.self.block ≡ g.row.N;
  more : (xs : List ℕ) → g.B.BlockFunction.digest l.self.state l.self.absorbed (take l.self.used l.self.block ++ (l.rest ++ xs))
      ≡ g.B.BlockFunction.digest l.initial.self.state l.initial.self.absorbed (take l.initial.self.used l.initial.self.block ++ (l.bytes ++ xs));
  count : g.row.N * l.self.absorbed + l.self.used + length l.rest ≡ g.row.N * l.initial.self.absorbed + l.initial.self.used + length l.bytes;
}

abbrev pub decreases-loop-self : goal.decreases-loop-self
decreases-loop-self g l = length l.rest
