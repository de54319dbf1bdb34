-- The bytes of the definition, one by one.
use Rattle.rules.specs.Vocabulary.{little}
use borrow.Author.Rules.{rules}
use Rattle.emit.proofs.put_short.Goals as goal

pub returns : goal.returns
unfolding little
returns c = search rules
