-- Each operation writes its bytes.
use mathlib.Core.Path.{sym}
use mir.Facts.{to_z-of_z}
use Rattle.rules.specs.Vp3.{vp3_cmd}
use Rattle.laws.specs.Buffers.{put_as, put-nothing}
use Rattle.vp3_cmd.proofs.Steps.{nothing, ends-run}
use Rattle.vp3_cmd.proofs.put_cmd.Goals as goal

pub put_stitch-requires : goal.put_stitch-requires
unfolding vp3_cmd
put_stitch-requires c =
    rw (to_z-of_z c.ranges.dx, to_z-of_z c.ranges.dy) (c.requires.0, (c.requires.1.0, rw c.in-Stitch.is at c.requires.1.1))

pub put2-requires : goal.put2-requires
put2-requires c = let a = c.args in
    rw (ends-run a.op a.dx a.dy c.in-Trim.is) at c.requires.1.1

pub returns-in-Stitch : goal.returns-in-Stitch
unfolding vp3_cmd
returns-in-Stitch c =
    rw c.in-Stitch.is (rw (to_z-of_z c.ranges.dx, to_z-of_z c.ranges.dy) at c.put_stitch.ensures)

pub returns-in-Jump : goal.returns-in-Jump
returns-in-Jump c = let a = c.args in
    put_as (put-nothing a.out.now a.at) (sym (nothing a.op a.dx a.dy c.in-Jump.is))

pub returns-in-Trim : goal.returns-in-Trim
returns-in-Trim c = let a = c.args in
    put_as c.put2.ensures (sym (ends-run a.op a.dx a.dy c.in-Trim.is))
