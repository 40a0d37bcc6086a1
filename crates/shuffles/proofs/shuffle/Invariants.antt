use Rattle.std.proofs.Common.{◌≡◌, ◌-◌, ◌%◌}
use Rattle.shuffles.specs.Shuffle.{shuffle_from, shuffled}
use Rattle.shuffles.proofs.shuffle.Given as goal

abbrev pub invariant-loop-i : goal.invariant-loop-i
invariant-loop-i g l = shuffle_from l.seed (l.i - 1) ((l.n - l.i) % 16) l.items ≡ shuffled l.seed l.initial.items
