-- What starting a hash again leaves.
use Rattle.std.specs.Prelude.{◌≡◌, ℕ, List}

-- the state after is as start leaves the one before, of a hash with this capacity, rule, bytes left and outcome of each state
pub record Restarted {S : Type 0} (capacity left : S → ℕ) (rule outcome : S → List ℕ → List ℕ) (before after : S) : Type 0 where
  pub fresh : left after ≡ capacity before
  pub ruled : outcome after ≡ rule before
  pub same : rule after ≡ rule before
  pub kept : capacity after ≡ capacity before
