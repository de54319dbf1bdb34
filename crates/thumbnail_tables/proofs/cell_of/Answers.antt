-- By the kind of the cell.
use Rattle.thumbnail_tables.proofs.cell_of.Goals as goal

pub returns-then-down : goal.returns-then-down
returns-then-down c = rw c.if-down.true c.row_cell.ensures

pub returns : goal.returns
returns c = rw c.if-down.false c.column_cell.ensures
