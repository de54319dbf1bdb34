-- The answer is that of the four comparisons.
use mathlib.Core.Path.{sym}
use lib.IntN.{pos, neg_ℤ}
use lib.Signed.{le_z}
use mir.Facts.{to_z-of_z}
use Rattle.rules.specs.Vocabulary.{between}
use Rattle.laws.specs.Tests.{and-no-right}
use Rattle.laws.specs.Ints.{ints, seen, false-le, true-le}
use Rattle.vp3_cmd.proofs.is_short.Goals as goal

pub returns-then-dx-ltminus127 : goal.returns-then-dx-ltminus127
unfolding between
returns-then-dx-ltminus127 c =
    rw (false-le (neg_ℤ (pos 127)) c.args.dx (omega (ints, seen c.ranges.dx, c.if-dx-ltminus127.true)))

pub returns-then-dx-gt127 : goal.returns-then-dx-gt127
unfolding between
returns-then-dx-gt127 c =
    let high = false-le c.args.dx (pos 127) (omega (ints, seen c.ranges.dx, c.if-dx-gt127.true)) in
    rw (and-no-right (le_z (neg_ℤ (pos 127)) c.args.dx) (le_z c.args.dx (pos 127)) high)

pub returns-then-dy-ltminus127 : goal.returns-then-dy-ltminus127
unfolding between
returns-then-dy-ltminus127 c =
    let third = false-le (neg_ℤ (pos 127)) c.args.dy (omega (ints, seen c.ranges.dy, c.if-dy-ltminus127.true)) in
    sym (and-no-right (between (neg_ℤ (pos 127)) (pos 127) c.args.dx) _ (rw third))

pub returns : goal.returns
unfolding between
returns c =
    let low = true-le (neg_ℤ (pos 127)) c.args.dx (omega (ints, seen c.ranges.dx, c.if-dx-ltminus127.false)) in
    let high = true-le c.args.dx (pos 127) (omega (ints, seen c.ranges.dx, c.if-dx-gt127.false)) in
    let third = true-le (neg_ℤ (pos 127)) c.args.dy (omega (ints, seen c.ranges.dy, c.if-dy-ltminus127.false)) in
    rw (low, high, third, to_z-of_z c.ranges.dy)
