-- Lists of 25 lanes.
use Rattle.std.specs.Prelude.{◌≡◌, ℕ, ◌<◌, List, length, slice_index}
use Rattle.std.proofs.lemmas.List.FromFn.{fill_by_all, length-map-range_with_len}
use Rattle.sha3.specs.Keccak.{lanes}

pub all_lanes : (f : ℕ → ℕ) (xs : List ℕ) → length xs ≡ 25 → ((k : ℕ) → k < 25 → slice_index xs k ≡ f k) → xs ≡ lanes f
unfolding lanes
all_lanes f xs n h = fill_by_all f xs 25 0 n h

pub length_lanes : (f : ℕ → ℕ) → length (lanes f) ≡ 25
unfolding lanes
length_lanes f = length-map-range_with_len f 0 25
