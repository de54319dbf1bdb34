-- The answer is that of the four comparisons of `in_hoop`.
use borrow.Author.Rules.{rules}
use Rattle.rules.specs.Hoop.{in_hoop}
use Rattle.rules.specs.Vocabulary.{between}
use Rattle.hoop_records.proofs.looks.holds.Goals as goal

pub returns : goal.returns
unfolding between in_hoop
returns c = search rules
