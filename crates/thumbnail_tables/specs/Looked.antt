-- Pictures drawn by tables of columns and rows.
use Rattle.std.specs.Prelude.{ℕ, List, [], ◌∷◌, ◌++◌, drop, replicate, ℤ, ◌-ℤ◌, ◌==◌, slice_index, unsigned_abs}
use Rattle.rules.specs.Charts.{blank_icon}
use Rattle.rules.specs.Vocabulary.{pick}
use Rattle.rules.specs.declared.Cmd.{Cmd}
use Rattle.thumbnail_tables.specs.Cells.{bit_set}

-- a picture with row 0 empty
abbrev pub rowless : List ℕ → List ℕ
rowless p = replicate 6 0 ++ drop 6 p

module _ (columns rows : List ℕ) (left top : ℤ) where
  -- a stitch sets the bit of its cells
  unfoldable pub looked : List ℕ → Cmd → List ℕ
  looked icon c = pick (c.kind == 0) (bit_set icon (slice_index columns (unsigned_abs (c.x -ℤ left))) (slice_index rows (unsigned_abs (c.y -ℤ top)))) icon

  unfoldable pub all_looked : List ℕ → List Cmd → List ℕ
  all_looked icon [] = icon
  all_looked icon (c ∷ cs) = all_looked (looked icon c) cs

  -- a colour change begins another picture
  unfoldable pub blocks_looked : List ℕ → List Cmd → List ℕ
  blocks_looked icon [] = rowless icon
  blocks_looked icon (c ∷ cs) = pick (c.kind == 3) (rowless icon ++ blocks_looked blank_icon cs) (blocks_looked (looked icon c) cs)

-- the picture of the whole by one pair of tables, then those of the blocks by the other
abbrev pub icons_looked : List ℕ → List ℕ → List ℕ → List ℕ → ℤ → ℤ → List Cmd → List ℕ
icons_looked columns rows bcolumns brows left top cs = rowless (all_looked columns rows left top blank_icon cs) ++ blocks_looked bcolumns brows left top blank_icon cs
