-- Each part of the tally.
use mir.Facts.{to_z-of_z}
use mir.Syntax.{w32}
use mir.Val.{SFits}
use Rattle.read_job_tally.proofs.Gathering.{tally-is}
use borrow.Author.Rules.{rules}
use Rattle.read_job_tally.proofs.with_cmd.Goals as goal

pub returns : goal.returns
returns c =
    let f : SFits w32 c.args.t.x = search rules in
    let g : SFits w32 c.args.t.y = search rules in
    tally-is c.args.t c.args.x c.args.y c.args.kind (to_z-of_z c.ranges.x) (to_z-of_z c.ranges.y) c.is_change.ensures
    (rw (to_z-of_z c.ranges.x, to_z-of_z c.ranges.y) at c.is_placed.ensures)
    (rw (to_z-of_z f, to_z-of_z g, to_z-of_z c.ranges.x, to_z-of_z c.ranges.y) at c.moves.ensures)
