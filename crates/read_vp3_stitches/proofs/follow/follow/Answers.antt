-- Near to 0 no stitch leads beyond, and a count is enough.
use Rattle.std.proofs.Common.{Some, ap, ◌∙◌}
use mir.Facts.{to_z-of_z}
use Rattle.read_vp3_stitches.proofs.Following.{near_within}
use Rattle.read_vp3_stitches.proofs.follow.follow.Goals as goal

pub returns-then-is_near-2 : goal.returns-then-is_near-2
returns-then-is_near-2 c =
    let a = c.args in
    let hx = rw (to_z-of_z c.ranges.x) at (c.is_near.ensures c.if-is_near.true) in
    let hy = rw (to_z-of_z c.ranges.y) at (c.is_near-then-is_near.ensures c.if-is_near-2.true) in
    ap Some c.count_stitches.ensures ∙ near_within a.bytes.now a.t a.x a.y hx hy
