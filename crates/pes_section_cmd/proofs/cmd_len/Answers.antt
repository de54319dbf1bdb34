-- A stitch and a jump have their lengths by whether they open a section; the others take no bytes.
use mathlib.Core.Path.{◌≡◌, refl, sym, ◌∙◌}
use native.Mathlib.Omega.{arith}
use Rattle.pes_section_cmd.specs.States.{cmd_len}
use Rattle.pes_section_cmd.proofs.Ops.{neither}
use Rattle.pes_section_cmd.proofs.cmd_len.Goals as goal

pub returns-then-new : goal.returns-then-new
unfolding cmd_len
returns-then-new c = let op = sym c.op_of.ensures ∙ c.in-Stitch.is in
    rw (op, c.if-new.true) (rw c.open_len.ensures.0, omega (arith, c.open_len.ensures.1))

pub returns-else-new : goal.returns-else-new
unfolding cmd_len
returns-else-new c = rw (sym c.op_of.ensures ∙ c.in-Stitch.is, c.if-new.false) (refl, omega arith)

pub returns-then-new-2 : goal.returns-then-new-2
unfolding cmd_len
returns-then-new-2 c = let op = sym c.op_of.ensures ∙ c.in-Jump.is in
    rw (op, c.if-new-2.true) (rw c.open_len-then-new-2.ensures.0, omega (arith, c.open_len-then-new-2.ensures.1))

pub returns-else-new-2 : goal.returns-else-new-2
unfolding cmd_len
returns-else-new-2 c = rw (sym c.op_of.ensures ∙ c.in-Jump.is, c.if-new-2.false) (refl, omega arith)

pub returns-in-Trim : goal.returns-in-Trim
unfolding cmd_len
returns-in-Trim c = let a = c.args in
    let none = neither (λ op. 0 ≡ cmd_len a.sections a.new op) c.op_of.result refl refl refl c.in-Trim.is in
    (rw (← c.op_of.ensures) none, omega arith)
