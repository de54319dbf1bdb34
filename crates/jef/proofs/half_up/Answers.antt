-- Half of n and the rest, by the definition.
use Rattle.rules.specs.Jef.{half_up}
use borrow.Author.Rules.{rules}
use Rattle.jef.proofs.half_up.Goals as goal

pub returns : goal.returns
unfolding half_up
returns c = search rules
