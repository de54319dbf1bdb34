-- Outside the picture no place lies in the cell; inside, its floors are the pixel.
use native.Mathlib.Omega.{arith}
use Rattle.thumbnails.proofs.Cells.{none-covers, cell-covers}
use Rattle.thumbnails.proofs.cell_of.Goals as goal

pub returns-then-x-ge48 : goal.returns-then-x-ge48
returns-then-x-ge48 c = none-covers _ _ c.no_cell.ensures

pub returns-then-y-ge48 : goal.returns-then-y-ge48
returns-then-y-ge48 c = none-covers _ _ c.no_cell-then-y-ge48.ensures

pub returns : goal.returns
returns c =
    cell-covers c.args.x c.args.y (omega arith) (omega arith)
