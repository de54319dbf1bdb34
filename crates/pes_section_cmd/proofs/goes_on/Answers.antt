-- Not where a run opens.
use borrow.Author.Tests.{eqb-true}
use Rattle.laws.specs.Tests.{false-true}
use Rattle.pes_section_cmd.proofs.goes_on.Goals as goal

pub returns-then-new : goal.returns-then-new
returns-then-new c = λ e. false-true e

pub returns : goal.returns
returns c = λ e. (c.if-new.false, eqb-true c.args.kind 0 e)
