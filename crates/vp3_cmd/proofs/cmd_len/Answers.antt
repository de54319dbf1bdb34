-- Each operation has its own length.
use native.Mathlib.Omega.{arith}
use mir.Facts.{to_z-of_z}
use Rattle.rules.specs.Vp3.{vp3_cmd}
use Rattle.vp3_cmd.proofs.Steps.{nothing, ends-run}
use Rattle.vp3_cmd.proofs.cmd_len.Goals as goal

pub returns-in-Stitch : goal.returns-in-Stitch
unfolding vp3_cmd
returns-in-Stitch c =
    rw c.in-Stitch.is (rw (to_z-of_z c.ranges.dx, to_z-of_z c.ranges.dy) at c.stitch_len.ensures)

pub returns-in-Jump : goal.returns-in-Jump
returns-in-Jump c = let a = c.args in (rw (nothing a.op a.dx a.dy c.in-Jump.is), omega arith)

pub returns-in-Trim : goal.returns-in-Trim
returns-in-Trim c = let a = c.args in (rw (ends-run a.op a.dx a.dy c.in-Trim.is), omega arith)
