-- What the rules say of one format: each topic file of a format ends in its layout.
use Rattle.std.specs.Prelude.{ℕ, zero, suc, Bool, List, [], ◌∷◌, ℤ, get_or}
use Rattle.rules.specs.Charts.{color}
use Rattle.rules.specs.Records.{Event}
use Rattle.rules.specs.declared.Cmd.{Cmd}
use Rattle.rules.specs.declared.Color.{Color}
use Rattle.rules.specs.declared.Refusal.{Refusal}

-- what a file stores for a block: nothing, a colour of no chart, or an entry of a chart and the entry's colour
pub data Stored : Type 0 where
  nothing : Stored
  shade : Color → Stored
  charted : ℕ → Color → Stored

pub record Layout : Type 0 where
  -- its extension, in small letters
  pub extension : List ℕ
  -- the least and the greatest step on one axis
  pub least : ℤ
  pub greatest : ℤ
  -- the file of a name, a list and thread bytes
  pub file : List ℕ → List Cmd → List ℕ → List ℕ
  -- no file of n commands and t threads is longer than `bound n t`
  pub bound : ℕ → ℕ → ℕ
  -- the largest distance between one of the threads and the chart's own colour of the entry written for it; 0 where none is written
  pub distance : List ℕ → ℕ
  -- the refusals of a file besides 2 (before these) and 11 (after them), in the order of checking
  pub refusals : List ℕ → List (Refusal × Bool)
  -- what the records of a file do
  pub events : List ℕ → List Event
  -- its cuts, by the runs and the blocks read and by what the records do
  pub cuts : List ℕ → List ℕ → List Event → ℕ
  -- the label of a file
  pub label : List ℕ → List ℕ
  -- what a file stores for block k
  pub stored : List ℕ → ℕ → Stored

-- element k of a list of colours, if there is one
unfoldable pub shade_at : List Color → ℕ → Stored
shade_at [] k = nothing
shade_at (c ∷ cs) zero = shade c
shade_at (c ∷ cs) (suc k) = shade_at cs k

-- entry e of a chart
unfoldable pub from_chart : List Color → ℕ → Stored
from_chart chart e = charted e (get_or chart e (color 0 0 0))
