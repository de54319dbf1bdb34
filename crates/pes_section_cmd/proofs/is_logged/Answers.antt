-- A section that opens, with another entry.
use mathlib.Core.Path.{sym, ◌∙◌}
use Rattle.pes_section_cmd.specs.States.{logs}
use Rattle.pes_section_cmd.proofs.is_logged.Goals as goal

pub returns-then-opens_section : goal.returns-then-opens_section
unfolding logs
returns-then-opens_section c = rw (sym c.opens_section.ensures ∙ c.if-opens_section.true)

pub returns : goal.returns
unfolding logs
returns c = rw (sym c.opens_section.ensures ∙ c.if-opens_section.false)
