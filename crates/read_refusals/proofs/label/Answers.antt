-- The bytes at the label's place. Assumes nothing.
use mathlib.Core.Path.{◌∙◌}
use Rattle.read_refusals.proofs.label.Goals as goal

pub returns : goal.returns
returns c = c.part.ensures ∙ c.label_at-p.ensures.text
