-- By the test.
use Rattle.std.proofs.Common.{le-ltb, lt-ltb}
use Rattle.thumbnail_tables.specs.Cells.{row_cell}
use Rattle.thumbnail_tables.proofs.row_cell.Goals as goal

pub returns-then-y-ge38 : goal.returns-then-y-ge38
unfolding row_cell
returns-then-y-ge38 c = simp (le-ltb _ _ c.if-y-ge38.true)

pub returns : goal.returns
unfolding row_cell
returns c = simp (lt-ltb _ _ c.if-y-ge38.false)
