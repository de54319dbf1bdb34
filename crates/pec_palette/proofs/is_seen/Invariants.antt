-- One of the first n threads is t if one of those from i on is.
use Prim.Native.Nat.{◌≤◌}
use mathlib.Core.Path.{◌≡◌}
use lib.ListN.{take, drop}
use Rattle.rules.specs.Vocabulary.{any}
use Rattle.rules.specs.Choices.{same_color}
use Rattle.rules.specs.Lists.{threads_of}
use Rattle.pec_palette.proofs.is_seen.Given as goal

abbrev pub invariant-loop-i : goal.invariant-loop-i
invariant-loop-i l = (l.i ≤ l.n) × (any (same_color l.t) (take l.n (threads_of l.threads)) ≡ any (same_color l.t) (drop l.i (take l.n (threads_of l.threads))))
