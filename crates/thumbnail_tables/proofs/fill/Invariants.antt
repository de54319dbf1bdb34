-- What is filled is as far as i; a stretch fills more.
use Rattle.std.proofs.Common.{◌≡◌, ◌-◌, ◌≤◌, length}
use Rattle.thumbnail_tables.specs.Cells.{Filled}
use Rattle.thumbnail_tables.proofs.fill.Given as goal

abbrev pub invariant-loop-i : goal.invariant-loop-i
invariant-loop-i l = (l.i ≤ l.n) × ((length l.table ≡ length l.initial.table) × Filled l.down l.scale l.t l.from l.i l.table)

abbrev pub decreases-loop-i : goal.decreases-loop-i
decreases-loop-i l = l.n - l.i
