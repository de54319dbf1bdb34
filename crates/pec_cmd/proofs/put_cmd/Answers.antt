-- Each operation writes its bytes; a trim has none.
use mir.Facts.{to_z-of_z}
use Rattle.rules.specs.Pec.{wide, pec_cmd}
use Rattle.laws.specs.Buffers.{put-nothing}
use Rattle.pec_cmd.proofs.put_cmd.Goals as goal

pub put_stitch-requires : goal.put_stitch-requires
put_stitch-requires c =
    record {
      step = rw (to_z-of_z c.ranges.dx, to_z-of_z c.ranges.dy) (c.requires.step);
      dy_in_bounds = rw (to_z-of_z c.ranges.dx, to_z-of_z c.ranges.dy) (rw c.in-Stitch.is at c.requires.dy_in_bounds);
    }

pub put_change-requires : goal.put_change-requires
unfolding pec_cmd
put_change-requires c = rw c.in-ColorChange.is at c.requires.dy_in_bounds

pub put-requires : goal.put-requires
unfolding pec_cmd
put-requires c = rw c.in-End.is at c.requires.dy_in_bounds

pub returns-in-Stitch : goal.returns-in-Stitch
returns-in-Stitch c =
    rw c.in-Stitch.is (rw (to_z-of_z c.ranges.dx, to_z-of_z c.ranges.dy) at c.put_stitch.ensures)

pub returns-in-Jump : goal.returns-in-Jump
returns-in-Jump c =
    rw c.in-Jump.is (rw (to_z-of_z c.ranges.dx, to_z-of_z c.ranges.dy) at c.put_jump.ensures)

pub returns-in-Trim : goal.returns-in-Trim
unfolding pec_cmd
returns-in-Trim c = rw c.in-Trim.is (put-nothing c.args.out.now c.args.at)

pub returns-in-ColorChange : goal.returns-in-ColorChange
unfolding pec_cmd
returns-in-ColorChange c = rw c.in-ColorChange.is c.put_change.ensures

pub returns-in-End : goal.returns-in-End
unfolding pec_cmd
returns-in-End c = rw c.in-End.is c.put.ensures

pub put_jump-requires-clause-at_in_bounds : goal.put_jump-requires-clause-at_in_bounds
unfolding pec_cmd wide
put_jump-requires-clause-at_in_bounds c = rw c.in-Jump.is at c.requires.dy_in_bounds
