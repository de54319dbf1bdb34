-- Two bytes, or none.
use borrow.Author.Rules.{rules}
use Rattle.rules.specs.Pec.{pause}
use Rattle.pec_cmd.proofs.pause_len.Goals as goal

pub returns-then-needed : goal.returns-then-needed
unfolding pause
returns-then-needed c = search rules

pub returns : goal.returns
unfolding pause
returns c = search rules
