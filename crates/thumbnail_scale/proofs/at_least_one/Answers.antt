-- Each way out by its test.
use Rattle.rules.specs.Thumbnails.{at_least_one}
use Rattle.thumbnail_scale.proofs.at_least_one.Goals as goal

pub returns-then-x : goal.returns-then-x
unfolding at_least_one
returns-then-x c = simp c.if-x.true

pub returns : goal.returns
unfolding at_least_one
returns c = simp c.if-x.false
