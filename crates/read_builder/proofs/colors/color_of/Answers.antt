-- A cell of the stored colours, or past their end the default.
use borrow.Author.Tests.{lt-ltb, le-ltb}
use Rattle.read_builder.specs.Colour.{colour_in}
use borrow.Author.Rules.{rules}
use Rattle.read_builder.proofs.colors.color_of.Goals as goal

pub returns-then-i-colors : goal.returns-then-i-colors
unfolding colour_in
returns-then-i-colors c = rw (lt-ltb _ _ c.if-i-colors.true)

pub returns : goal.returns
unfolding colour_in
returns c = rw (le-ltb _ _ c.if-i-colors.false) c.default_color.ensures
