-- The three lowest bytes.
use borrow.Author.Rules.{rules}
use Rattle.rules.specs.Vocabulary.{little}
use Rattle.emit.proofs.put_three.Goals as goal

pub returns : goal.returns
unfolding little
returns c = search rules
