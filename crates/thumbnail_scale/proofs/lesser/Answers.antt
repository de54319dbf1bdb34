-- Each way out by its test.
use Rattle.rules.specs.Thumbnails.{lesser}
use Rattle.thumbnail_scale.proofs.lesser.Goals as goal

pub returns-then-x-y : goal.returns-then-x-y
unfolding lesser
returns-then-x-y c = simp c.if-x-y.true

pub returns : goal.returns
unfolding lesser
returns c = simp c.if-x-y.false
