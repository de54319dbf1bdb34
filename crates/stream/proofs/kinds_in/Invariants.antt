-- What is counted and what is still to be counted come to the whole.
use mathlib.Core.Path.{◌≡◌}
use Prim.Native.Nat.{◌+◌, ◌≤◌}
use lib.ListN.{take, drop}
use Rattle.rules.specs.Vocabulary.{count}
use Rattle.stream_cmd.specs.Cmds.{kind_in}
use Rattle.stream.proofs.kinds_in.Given as goal

abbrev pub invariant-loop-i : goal.invariant-loop-i
invariant-loop-i l =
    (l.i ≤ l.n)
    × ((l.found ≤ l.i)
    × (count (kind_in l.lo l.hi) (take l.n l.kinds) ≡ l.found + count (kind_in l.lo l.hi) (drop l.i (take l.n l.kinds))))
