-- The entry and the distance of an answer.
use Rattle.std.specs.Prelude.{ℕ, Some, None, Option}

abbrev pub entry_in : Option (ℕ × ℕ) → ℕ
entry_in (Some (i, d)) = i
entry_in None = 1

abbrev pub distance_in : Option (ℕ × ℕ) → ℕ
distance_in (Some (i, d)) = d
distance_in None = 0
