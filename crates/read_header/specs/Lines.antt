-- The lines that begin at a place or after it.
use Rattle.std.specs.Prelude.{ℕ, ◌+◌, ◌-◌, ◌≤◌, ◌≡◌, List, [], ◌∷◌, leb, length, take, drop}
use Rattle.rules.specs.Vocabulary.{pick}
use Rattle.rules.specs.Text.{lines_of}

-- none past the end
unfoldable pub lines_from : ℕ → List ℕ → List (List ℕ)
lines_from at s = pick (leb at (length s)) (lines_of (drop at s)) []

-- the line that begins at `at` ends before e
pub record Line (s : List ℕ) (at e : ℕ) : Type 0 where
  pub starts : at ≤ e
  pub inside : e ≤ length s
  pub lines : lines_from at s ≡ take (e - at) (drop at s) ∷ lines_from (e + 1) s
