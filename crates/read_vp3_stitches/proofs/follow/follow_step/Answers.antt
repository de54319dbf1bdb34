-- Each kind of step by its law.
use mir.Facts.{to_z-of_z}
use mir.Syntax.{w32}
use mir.Val.{SFits}
use Rattle.read_vp3_stitches.proofs.Following.{follows-stitch, follows-end-run, follows-finish}
use borrow.Author.Rules.{rules}
use Rattle.read_vp3_stitches.proofs.follow.follow_step.Goals as goal

pub returns-in-Stitch : goal.returns-in-Stitch
returns-in-Stitch c =
    let f : SFits w32 c.in-Stitch.dx = search rules in
    let g : SFits w32 c.in-Stitch.dy = search rules in
    rw (c.follow_stitch.ensures, to_z-of_z f, to_z-of_z g) (follows-stitch c.args.bytes.now c.args.w c.requires.0 c.requires.1.1 c.in-Stitch.ensures)

pub returns-in-EndRun : goal.returns-in-EndRun
returns-in-EndRun c =
    let w = c.args.w in
    let f : SFits w32 w.x = search rules in
    let g : SFits w32 w.y = search rules in
    follows-end-run c.args.bytes.now w c.requires.0 c.requires.1.1 c.in-EndRun.ensures c.tally_one.ensures (to_z-of_z f) (to_z-of_z g)

pub returns-in-Finish : goal.returns-in-Finish
returns-in-Finish c =
    let w = c.args.w in
    let f : SFits w32 w.x = search rules in
    let g : SFits w32 w.y = search rules in
    follows-finish c.args.bytes.now w c.requires.0 c.requires.1.1 c.in-Finish.ensures (to_z-of_z f) (to_z-of_z g)
