-- An entry filled where one was found; the entries of threads by a chart, and how far off the threads are.
use Rattle.std.specs.Prelude.{ℕ, List, map, set, Some, None, Option}
use Rattle.rules.specs.Choices.{nearest_index, farthest}
use Rattle.rules.specs.Pec.{found_or}
use Rattle.rules.specs.declared.Color.{Color}

unfoldable pub set_at : Option (ℕ × ℕ) → Option Color → List (Option Color) → List (Option Color)
set_at (Some (i, d)) s entries = set entries i s
set_at None s entries = entries

abbrev pub entry_in : List (Option Color) → Color → ℕ
entry_in chart t = found_or 0 (nearest_index t chart)

abbrev pub entries_in : List (Option Color) → List Color → List ℕ
entries_in chart ts = map (λ (t : Color). entry_in chart t) ts

-- from the colours of `own`
abbrev pub off_in : List (Option Color) → List (Option Color) → List Color → ℕ
off_in own chart ts = farthest own ts (entries_in chart ts)
