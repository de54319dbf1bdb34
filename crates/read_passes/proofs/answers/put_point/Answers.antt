-- Two stores in a row.
use native.Mathlib.Omega.{arith}
use native.Mathlib.Numerals.{add-one}
use mir.Facts.{to_z-of_z}
use lib.ListN.{length-set}
use Rattle.read_passes.proofs.answers.put_point.Goals as goal

pub bounds-places-at-2 : goal.bounds-places-at-2
bounds-places-at-2 c = simp length-set (omega arith)

pub returns : goal.returns
returns c = rw (to_z-of_z c.ranges.x, to_z-of_z c.ranges.y, add-one)
