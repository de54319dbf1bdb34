-- Each operation has its own length.
use native.Mathlib.Omega.{arith}
use mir.Facts.{to_z-of_z}
use Rattle.rules.specs.Pec.{wide, pec_cmd}
use Rattle.pec_cmd.specs.States.{state_of}
use Rattle.pec_cmd.proofs.Values.{stitch-long, change-long}
use borrow.Author.Rules.{rules}
use Rattle.pec_cmd.proofs.cmd_len.Goals as goal

pub pauses-requires : goal.pauses-requires
unfolding pec_cmd wide
pauses-requires c = search rules

pub pause_len-requires : goal.pause_len-requires
unfolding pec_cmd wide
pause_len-requires c = search rules

pub value_len-requires : goal.value_len-requires
unfolding pec_cmd wide
value_len-requires c = search rules

pub value_len-requires-in-Stitch : goal.value_len-requires-in-Stitch
unfolding pec_cmd wide
value_len-requires-in-Stitch c = search rules

pub pause_len-requires-in-ColorChange : goal.pause_len-requires-in-ColorChange
unfolding pec_cmd wide
pause_len-requires-in-ColorChange c = search rules

pub returns-in-Stitch : goal.returns-in-Stitch
returns-in-Stitch c =
    let long = stitch-long (state_of c.args.s) c.args.dx c.args.dy in
    let p = rw (c.pauses.ensures, to_z-of_z c.ranges.dx, to_z-of_z c.ranges.dy) at c.pause_len.ensures.0 in
    let q = rw (to_z-of_z c.ranges.dx) at c.value_len.ensures.0 in
    let r = rw (to_z-of_z c.ranges.dy) at c.value_len-in-Stitch.ensures.0 in
    rw c.in-Stitch.is (omega (arith, long, p, q, r), omega (arith, c.pause_len.ensures.1, c.value_len.ensures.1, c.value_len-in-Stitch.ensures.1))

pub returns-in-Jump : goal.returns-in-Jump
unfolding pec_cmd wide
returns-in-Jump c = search rules

pub returns-in-Trim : goal.returns-in-Trim
unfolding pec_cmd wide
returns-in-Trim c = search rules

pub returns-in-ColorChange : goal.returns-in-ColorChange
returns-in-ColorChange c =
    let long = change-long (state_of c.args.s) c.args.dx c.args.dy in
    rw c.in-ColorChange.is (omega (arith, long, c.pause_len-in-ColorChange.ensures.0), omega (arith, c.pause_len-in-ColorChange.ensures.1))

pub returns-in-End : goal.returns-in-End
unfolding pec_cmd wide
returns-in-End c = search rules
