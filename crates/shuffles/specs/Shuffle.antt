-- Shuffle, on lists of any kind.
use Rattle.std.specs.Prelude.{ℕ, zero, suc, ◌+◌, ◌-◌, ◌%◌, List, length}
use Rattle.std.specs.List.{swap}
use Rattle.bits.specs.Words.{word}

-- the exchanges at the positions i, i - 1, .., 1, from word w of the seed on
abbrev pub shuffle_from : {X : Type 0} → List ℕ → ℕ → ℕ → List X → List X
shuffle_from seed zero w xs = xs
shuffle_from seed (suc i) w xs =
    shuffle_from seed i ((w + 1) % 16) (swap xs (suc i) (word seed w % (suc i + 1)))

abbrev pub shuffled : {X : Type 0} → List ℕ → List X → List X
shuffled seed xs = shuffle_from seed (length xs - 1) 0 xs
