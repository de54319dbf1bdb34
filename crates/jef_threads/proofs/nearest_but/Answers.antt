-- `nearest_but` meets its contract. Assumes nothing.
use mathlib.Core.Path.{ap, ◌∙◌}
use Rattle.rules.specs.Choices.{nearest_first_answer}
use Rattle.jef_threads.proofs.nearest_but.Goals as goal

pub returns : goal.returns
returns c = c.nearest_first.ensures ∙ ap (nearest_first_answer c.args.t) c.without-palette.ensures
