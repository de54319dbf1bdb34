-- The distance of a thread, or 0. Assumes nothing.
use mathlib.Core.Path.{◌∙◌}
use Rattle.rules.specs.Choices.{away}
use borrow.Author.Rules.{rules}
use Rattle.formats.proofs.away.Goals as goal

pub returns-in_default : goal.returns-in_default
unfolding away
returns-in_default c = search rules

pub color_distance-requires : goal.color_distance-requires
unfolding away
color_distance-requires c = search rules

pub returns : goal.returns
unfolding away
returns c = c.color_distance.ensures ∙ rw c.in-Some.is
