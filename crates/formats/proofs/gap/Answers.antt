-- `gap` meets its contract. Assumes nothing.
use Rattle.rules.specs.Choices.{gap}
use borrow.Author.Rules.{rules}
use Rattle.formats.proofs.gap.Goals as goal

pub returns-then-a-b : goal.returns-then-a-b
unfolding gap
returns-then-a-b c = search rules

pub returns : goal.returns
unfolding gap
returns c = search rules
