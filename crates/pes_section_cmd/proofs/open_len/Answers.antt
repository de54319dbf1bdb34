-- Six bytes for the first section, eight for a later one.
use mathlib.Core.Path.{refl}
use native.Mathlib.Omega.{arith}
use borrow.Author.Tests.{eq-eqb, ne_eqb}
use Rattle.pes_section_cmd.specs.States.{open_len}
use Rattle.pes_section_cmd.proofs.open_len.Goals as goal

pub returns-then-sections-eq0 : goal.returns-then-sections-eq0
unfolding open_len
returns-then-sections-eq0 c = rw (eq-eqb c.args.sections 0 c.if-sections-eq0.true) (refl, omega arith)

pub returns : goal.returns
unfolding open_len
returns c = rw (ne_eqb c.args.sections 0 c.if-sections-eq0.false) (refl, omega arith)
