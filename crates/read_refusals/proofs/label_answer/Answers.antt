-- The answer by the format that the extension names. Assumes nothing.
use mathlib.Core.Path.{sym, ◌∙◌}
use Rattle.read_refusals.proofs.Labels.{unknown-label}
use Rattle.read_refusals.proofs.label_answer.Goals as goal

pub returns-in_default : goal.returns-in_default
returns-in_default c = unknown-label _ _ (sym c.extension_of.ensures ∙ c.in_default.is)

pub returns : goal.returns
returns c = rw (sym c.extension_of.ensures ∙ c.in-Some.is)
    c.label_answer_in.ensures
