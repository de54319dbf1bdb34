-- What is written is as far as the place; what comes is what the commands left take, from the place of the last.
use mathlib.Core.Path.{◌≡◌}
use Prim.Native.Nat.{◌-◌, ◌≤◌, min}
use lib.ListN.{length}
use Rattle.rules.specs.Lists.{commands}
use Rattle.stream_cmd.specs.declared.Stream.TheVariants.{Dst}
use Rattle.stream.proofs.Stream.{Going}
use Rattle.stream.proofs.triples.put_records.Given as goal

abbrev pub invariant-loop-i : goal.invariant-loop-i
invariant-loop-i l =
    (l.n ≡ length (commands l.xs l.ys l.kinds))
    × ((l.n ≡ min (length l.xs) (min (length l.ys) (length l.kinds)))
    × ((l.i ≤ l.n) × Going Dst l.xs l.ys l.kinds l.initial.out l.at l.out l.to l.i l.x l.y))

abbrev pub decreases-loop-i : goal.decreases-loop-i
decreases-loop-i l = l.n - l.i
