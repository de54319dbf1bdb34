-- Two bytes, or eight.
use mathlib.Core.Path.{sym, ◌∙◌}
use native.Mathlib.Omega.{arith}
use mir.Facts.{to_z-of_z}
use Rattle.rules.specs.Vp3.{big}
use Rattle.vp3_cmd.proofs.Steps.{two_bytes, eight-bytes}
use Rattle.vp3_cmd.proofs.stitch_len.Goals as goal

pub returns-then-is_short : goal.returns-then-is_short
returns-then-is_short c =
    let e = rw (to_z-of_z c.ranges.dx, to_z-of_z c.ranges.dy) at (sym c.is_short.ensures ∙ c.if-is_short.true) in
    (rw (two_bytes c.args.dx c.args.dy e), omega arith)

pub returns : goal.returns
unfolding big
returns c =
    let e = rw (to_z-of_z c.ranges.dx, to_z-of_z c.ranges.dy) at (sym c.is_short.ensures ∙ c.if-is_short.false) in
    (rw (eight-bytes c.args.dx c.args.dy e), omega arith)
