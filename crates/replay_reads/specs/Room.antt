-- What is known of the buffers between cases.
use Rattle.std.specs.Prelude.{ℕ, ◌≡◌, List, ℤ, length}

-- each has room for the longest case, or for as many cells as that has bytes
pub record Roomy (case : List ℕ) (places : List ℤ) (runs blocks : List ℕ) : Type 0 where
  pub bytes : 65536 ≡ length case
  pub points : 65536 ≡ length places
  pub counts : 65536 ≡ length runs
  pub heads : 65536 ≡ length blocks
