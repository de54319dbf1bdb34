-- The list ends once where no kind before i is an end and the kinds that are left, of which there is one at least, end once.
use mathlib.Core.Path.{◌≡◌}
use mathlib.Core.Bool.{◌&&◌, not}
use Prim.Native.Nat.{◌<◌}
use lib.ListN.{length, drop}
use Rattle.rules.specs.Lists.{ends_once}
use Rattle.write_refusals.proofs.ends_once.Given as goal

abbrev pub invariant-loop-i : goal.invariant-loop-i
invariant-loop-i l = (l.i < length l.kinds) × (ends_once l.kinds ≡ (not l.early && ends_once (drop l.i l.kinds)))
