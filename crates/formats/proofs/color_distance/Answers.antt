-- `color_distance` meets its contract. Assumes nothing.
use mathlib.Core.Path.{◌∙◌}
use Rattle.rules.specs.Choices.{distance}
use Rattle.formats.proofs.color_distance.Goals as goal

pub returns : goal.returns
unfolding distance
returns c = let gap = c.gap in let half-to-even = c.half_to_even-m in
    c.weighed.ensures ∙ rw (half-to-even.ensures.0, gap.ensures.0, c.gap-2.ensures.0, c.gap-3.ensures.0)
