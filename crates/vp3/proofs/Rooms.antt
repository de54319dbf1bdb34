-- The room in a buffer, part after part. Assumes nothing.
use Prim.Native.Nat.{ℕ, ◌+◌, ◌≤◌}
use mathlib.Core.List.{List}
use native.Mathlib.Omega.{arith}
use lib.Dec.{T, leb, lit≤}
use lib.ListN.{length}
use Rattle.laws.specs.Buffers.{Put}

-- from m on, k more values have room in d
pub record Room (d : List ℕ) (m k : ℕ) : Type 0 where
  pub enough : m + k ≤ length d

module _ {d : List ℕ} {m k : ℕ} where
  -- what one call asks
  pub some : (j : ℕ) → T (leb j k) → Room d m k → m + j ≤ length d
  some j t h = let l : j ≤ k = lit≤ t in omega arith

  -- what is left behind what it puts
  pub behind : {d' vs : List ℕ} {r : ℕ} (j : ℕ) → T (leb (length vs + j) k) → Put d d' m r vs → Room d m k → Room d' r j
  behind {vs = vs} j t p h = let l : length vs + j ≤ k = lit≤ t in record { enough = omega arith }
