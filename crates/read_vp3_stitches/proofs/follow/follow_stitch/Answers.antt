-- Each sum is there or beyond.
use Rattle.std.proofs.Common.{◌∙◌}
use mir.Facts.{to_z-of_z}
use mir.Syntax.{w32}
use mir.Val.{SFits}
use Rattle.read_vp3_stitches.proofs.Following.{way-x, way-y, way_on}
use borrow.Author.Rules.{rules}
use Rattle.read_vp3_stitches.proofs.follow.follow_stitch.Goals as goal

pub returns-in_err-x : goal.returns-in_err-x
returns-in_err-x c =
    let f : SFits w32 c.args.w.x = search rules in
    c.from_residual.ensures ∙ way-x c.args.w _ _ _ (rw (to_z-of_z f, to_z-of_z c.ranges.dx) at c.in_err-x.ensures)

pub returns-in_err-y : goal.returns-in_err-y
returns-in_err-y c =
    let f : SFits w32 c.args.w.x = search rules in
    let g : SFits w32 c.args.w.y = search rules in
    c.from_residual-in_err-y.ensures
    ∙ way-y c.args.w _ _ _ (rw (to_z-of_z f, to_z-of_z c.ranges.dx) at c.in_ok-x.ensures).0 (rw (to_z-of_z g, to_z-of_z c.ranges.dy) at c.in_err-y.ensures)

pub returns : goal.returns
returns c =
    let f : SFits w32 c.args.w.x = search rules in
    let g : SFits w32 c.args.w.y = search rules in
    let a = rw (to_z-of_z f, to_z-of_z c.ranges.dx) at c.in_ok-x.ensures in
    let b = rw (to_z-of_z g, to_z-of_z c.ranges.dy) at c.in_ok-y.ensures in
    way_on c.args.w _ _ _ a.0 b.0 a.1 b.1 c.tally_one.ensures
