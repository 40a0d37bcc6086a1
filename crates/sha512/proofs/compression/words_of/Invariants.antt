use Rattle.std.proofs.Common.{◌≡◌, ℕ, ◌*◌, ◌<◌, length, get_or, take, drop}
use Rattle.sha512.specs.Sha512.{big_endian}
use Rattle.sha512.proofs.compression.words_of.Given as goal

abbrev pub invariant-loop-i : goal.invariant-loop-i
invariant-loop-i l = record {
  long : length l.w ≡ 80;
  done : (k : ℕ) → k < l.i → get_or l.w k 0 ≡ big_endian (take 8 (drop (8 * k) l.block));
}
