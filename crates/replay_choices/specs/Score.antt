-- What is known of the cases that were read.
use Rattle.std.specs.Prelude.{ℕ, ◌≤◌, List, length}

-- n of them were read, no more than there is room for
pub record Counted (n : ℕ) (s : List ℕ) : Type 0 where
  pub within : n ≤ length s
  pub few : length s ≤ 65536
