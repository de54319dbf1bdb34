-- The answer is that of the two comparisons of `between`.
use borrow.Author.Rules.{rules}
use Rattle.rules.specs.Vocabulary.{between}
use Rattle.write_refusals.proofs.is_between.Goals as goal

pub returns : goal.returns
unfolding between
returns c = search rules
