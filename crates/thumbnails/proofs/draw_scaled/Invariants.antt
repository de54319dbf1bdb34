-- The commands left, drawn on the picture so far, are all of them on a blank one.
use lib.ListN.{length}
use Prim.Native.Nat.{◌≤◌}
use mathlib.Core.Path.{◌≡◌}
use lib.Seq.{slice}
use Rattle.rules.specs.Charts.{blank_icon}
use Rattle.rules.specs.Lists.{commands}
use Rattle.rules.specs.Thumbnails.{drawn}
use Rattle.thumbnails.specs.Cells.{Seen}
use Rattle.thumbnails.proofs.draw_scaled.Given as goal

abbrev pub invariant-loop-i : goal.invariant-loop-i
invariant-loop-i l =
    let cs = commands l.xs l.ys l.kinds in
    (l.i ≤ l.to) × ((length l.icon ≡ 228) × ((drawn l.s l.icon (slice l.i l.to cs) ≡ drawn l.s blank_icon (slice l.from l.to cs)) × Seen l.last l.icon))
