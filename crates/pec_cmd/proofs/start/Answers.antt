-- The list has not begun.
use borrow.Author.Rules.{rules}
use Rattle.rules.specs.Pec.{pec_start}
use Rattle.pec_cmd.proofs.start.Goals as goal

pub returns : goal.returns
unfolding pec_start
returns c = search rules
