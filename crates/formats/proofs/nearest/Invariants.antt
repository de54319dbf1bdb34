-- `nearest` meets its contract. The invariant: what leads among the entries seen so far. Assumes nothing.
use Prim.Native.Nat.{◌≤◌}
use Rattle.formats.specs.Closer.{seen}
use Rattle.formats.proofs.Leads.{Leads}
use Rattle.formats.proofs.nearest.Given as goal

abbrev pub invariant-loop-i : goal.invariant-loop-i
invariant-loop-i l = (l.least ≤ 4294967296) × Leads l.later l.color l.palette l.i (seen l.at l.least)
