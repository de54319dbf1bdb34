-- The bytes at the label's place. Assumes nothing.
use mathlib.Core.Path.{◌∙◌}
use Rattle.read_header.proofs.dst_label.Goals as goal

pub returns : goal.returns
returns c = c.part.ensures ∙ c.dst_label_at-p.ensures.text
