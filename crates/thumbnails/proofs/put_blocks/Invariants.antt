-- What is written is as far as the place; what comes is the thumbnails of the blocks left.
use Prim.Native.Nat.{◌+◌, ◌-◌}
use mathlib.Core.Path.{◌≡◌}
use lib.ListN.{length}
use Rattle.rules.specs.Lists.{commands}
use Rattle.laws.specs.Buffers.{Writing}
use Rattle.thumbnail_tables.specs.Blocks.{block_icons}
use Rattle.thumbnails.proofs.Ends.{icons_from}
use Rattle.thumbnails.proofs.put_blocks.Given as goal

abbrev pub invariant-loop-from : goal.invariant-loop-from
invariant-loop-from l =
    let cs = commands l.xs l.ys l.kinds in
    (l.n ≡ length cs) × Writing l.initial.out l.at (block_icons l.s cs) l.out l.to (icons_from l.s cs l.from)

abbrev pub decreases-loop-from : goal.decreases-loop-from
decreases-loop-from l = l.n + 1 - l.from
