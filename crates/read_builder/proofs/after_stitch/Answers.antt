-- The sums, each with one more where the stitch opens a run.
use native.Mathlib.Omega.{arith}
use mir.Facts.{to_z-of_z}
use Rattle.read_builder.proofs.Parts.{may-open}
use borrow.Author.Rules.{rules}
use Rattle.read_builder.proofs.after_stitch.Goals as goal

pub returns : goal.returns
returns c =
    let a = c.args in
    let w = may-open a.b.run in
    rw (c.opens-o.ensures, to_z-of_z c.ranges.x, to_z-of_z c.ranges.y, w.after, w.begun a.b.begun, w.adds a.b.points)
