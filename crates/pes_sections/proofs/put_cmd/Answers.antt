-- A stitch and a jump write their bytes, the others none.
use mathlib.Core.Path.{sym, ◌∙◌}
use native.Mathlib.Omega.{arith}
use mir.Facts.{to_z-of_z}
use Rattle.rules.specs.Pes.{pes_cmd}
use Rattle.laws.specs.Buffers.{Put, put-nothing}
use Rattle.laws.specs.Listing.{length-commands}
use Rattle.pes_section_cmd.proofs.Ops.{neither}
use Rattle.pes_sections.specs.States.{cmd_text}
use Rattle.pes_sections.proofs.Points.{near-at}
use Rattle.pes_sections.proofs.put_cmd.Goals as goal

pub bounds-kinds-i : goal.bounds-kinds-i
bounds-kinds-i c = let a = c.args in omega (arith, length-commands a.xs.now a.ys.now a.kinds.now)

pub returns-in-Stitch : goal.returns-in-Stitch
returns-in-Stitch c =
    let op = sym c.op_of.ensures ∙ c.in-Stitch.is in
    rw op (rw (to_z-of_z c.ranges.left, to_z-of_z c.ranges.bottom) at c.put_stitch.ensures)

pub returns-in-Jump : goal.returns-in-Jump
returns-in-Jump c =
    let op = sym c.op_of.ensures ∙ c.in-Jump.is in
    rw op (rw (to_z-of_z c.ranges.left, to_z-of_z c.ranges.bottom) at c.put_jump.ensures)

pub put_stitch-requires-clause-near : goal.put_stitch-requires-clause-near
put_stitch-requires-clause-near c =
    let a = c.args in
    rw (to_z-of_z c.ranges.left, to_z-of_z c.ranges.bottom)
    (near-at a.xs.now a.ys.now a.kinds.now a.i c.requires.near.1 c.requires.i_in_bounds)

pub returns-in-Trim : goal.returns-in-Trim
unfolding pes_cmd
returns-in-Trim c =
    let a = c.args in
    let out = a.out.now in
    let none = put-nothing out a.at in
    rw (← c.op_of.ensures)
    (neither (λ op. Put out out a.at a.at (cmd_text a.left a.bottom a.s a.new op a.xs.now a.ys.now a.kinds.now a.i))
    c.op_of.result none none none c.in-Trim.is)
