-- What is known of the buffers that a list and its file are put to.
use Rattle.std.specs.Prelude.{ℕ, ◌≡◌, List, ℤ, length}

-- each has room for any list, and for any file, that a case holds
pub record Roomy (xs ys : List ℤ) (kinds out : List ℕ) : Type 0 where
  pub across : 65536 ≡ length xs
  pub down : 65536 ≡ length ys
  pub ops : 65536 ≡ length kinds
  pub file : 65536 ≡ length out
