-- The whole text, without its blanks. Assumes nothing.
use mathlib.Core.Path.{ap, ◌∙◌}
use lib.Seq.{take-length}
use Rattle.rules.specs.Text.{trimmed}
use Rattle.read_header.proofs.trimmed.Goals as goal

pub returns : goal.returns
returns c = c.part.ensures ∙ c.trimmed_at-p.ensures.text
    ∙ ap trimmed (take-length c.args.s.now)
