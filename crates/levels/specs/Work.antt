-- What a call leaves in lent work memory.
use Rattle.std.specs.Prelude.{◌≡◌, ℕ, List, length, replicate}

-- all zeros, and as long as before
abbrev pub Cleared : List ℕ → List ℕ → Type 0
Cleared before after = after ≡ replicate (length before) 0
