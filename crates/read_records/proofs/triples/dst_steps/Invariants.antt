-- The three entries of each four bits passed are right.
use mathlib.Core.Path.{◌≡◌}
use Prim.Native.Nat.{ℕ, ◌-◌, ◌≤◌, ◌<◌}
use lib.ListN.{length}
use Rattle.read_records.proofs.DstTables.{Entries}
use Rattle.read_records.proofs.triples.dst_steps.Given as goal

abbrev pub invariant-loop-n : goal.invariant-loop-n
invariant-loop-n l = (length l.steps ≡ 48) × ((k : ℕ) → k < l.n → Entries l.y l.steps k)
