-- The tag, then the length.
use mathlib.Core.Path.{sym, ◌∙◌}
use Rattle.read_job_fields.proofs.Reading.{tag_refused, length_refused, lies}
use Rattle.read_job_fields.proofs.field_at.Goals as goal

pub returns-in_default : goal.returns-in_default
returns-in_default c = tag_refused _ _ _ c.requires (sym c.tag_at.ensures ∙ c.in_default.is)

pub returns-in_default-length_at : goal.returns-in_default-length_at
returns-in_default-length_at c =
    length_refused _ _ _ c.requires (sym c.tag_at.ensures ∙ c.in-Some.is)
    (sym c.length_at.ensures ∙ c.in_default-length_at.is)

pub returns : goal.returns
returns c =
    lies _ _ _ c.requires (sym c.tag_at.ensures ∙ c.in-Some.is)
    (sym c.length_at.ensures ∙ c.in-Some-length_at.is)
