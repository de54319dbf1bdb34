-- What is drawn is as far as the place; what comes is what the commands left draw.
use Rattle.std.proofs.Common.{◌+◌}
use Rattle.thumbnail_tables.proofs.Turns.{Drawing}
use Rattle.thumbnail_tables.proofs.draw_looked.Given as goal

abbrev pub invariant-loop-i : goal.invariant-loop-i
invariant-loop-i l =
    Drawing l.columns l.rows l.bcolumns l.brows l.left l.top l.xs l.ys l.kinds l.initial.out (l.at + 228) l.n l.out l.icon l.block l.to l.i
