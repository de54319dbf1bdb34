-- The same number, one cell after the other.
use Rattle.std.proofs.Common.{◌-◌, ◌≤◌, replicate}
use Rattle.laws.specs.Buffers.{Writing}
use Rattle.thumbnail_tables.proofs.fill_same.Given as goal

abbrev pub invariant-loop-k : goal.invariant-loop-k
invariant-loop-k l = (l.k ≤ l.j) × Writing l.initial.table l.i (replicate (l.j - l.i) l.v) l.table l.k (replicate (l.j - l.k) l.v)
