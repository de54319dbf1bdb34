-- Each kind of step by its law.
use mir.Facts.{to_z-of_z}
use mir.Syntax.{w32}
use mir.Val.{SFits}
use Rattle.hoop_vp3.proofs.Steps.{can-sew, looks-step}
use borrow.Author.Rules.{rules}
use Rattle.hoop_vp3.proofs.look_step.Goals as goal

pub sew-requires : goal.sew-requires
sew-requires c =
    let f : SFits w32 c.in-Stitch.dx = search rules in
    let g : SFits w32 c.in-Stitch.dy = search rules in
    rw (to_z-of_z f, to_z-of_z g) (can-sew c.requires c.in-Stitch.ensures)

pub returns-in-Stitch : goal.returns-in-Stitch
returns-in-Stitch c =
    let f : SFits w32 c.in-Stitch.dx = search rules in
    let g : SFits w32 c.in-Stitch.dy = search rules in
    rw (c.sew.ensures, to_z-of_z f, to_z-of_z g) (looks-step c.requires _ c.in-Stitch.ensures)

pub returns-in-EndRun : goal.returns-in-EndRun
returns-in-EndRun c = rw c.hop.ensures (looks-step c.requires _ c.in-EndRun.ensures)

pub returns-in-Finish : goal.returns-in-Finish
returns-in-Finish c = rw c.pass_to-in-Finish.ensures (looks-step c.requires _ c.in-Finish.ensures)
