-- Both entries of each byte passed are right.
use mathlib.Core.Path.{◌≡◌}
use Prim.Native.Nat.{ℕ, ◌-◌, ◌≤◌, ◌<◌}
use lib.ListN.{length}
use Rattle.read_records.proofs.PecTables.{Entries}
use Rattle.read_records.proofs.words.pec_steps.Given as goal

abbrev pub invariant-loop-n : goal.invariant-loop-n
invariant-loop-n l = (length l.steps ≡ 512) × ((k : ℕ) → k < l.n → Entries l.steps k)
