-- Each entry passed is the part of its step.
use mathlib.Core.Path.{◌≡◌}
use Prim.Native.Nat.{ℕ, ◌≤◌, ◌<◌}
use lib.ListN.{length, get_or}
use Rattle.stream_cmd.specs.Cmds.{part_of}
use Rattle.stream_cmd.proofs.triples.table.Given as goal

abbrev pub invariant-loop-t : goal.invariant-loop-t
invariant-loop-t l = (length l.parts ≡ 243) × ((l.t ≤ 243) × ((k : ℕ) → k < l.t → get_or l.parts k 0 ≡ part_of l.wide k))
