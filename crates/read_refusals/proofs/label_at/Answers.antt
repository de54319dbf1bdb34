-- The place of the answer, and nothing under a refusal. Assumes nothing.
use Rattle.read_refusals.proofs.Labels.{found-there, found_nowhere}
use Rattle.rules.specs.Files.{file_verdict}
use Rattle.rules.specs.Refusals.{extension_of}
use Rattle.read_refusals.proofs.label_at.Goals as goal

pub returns-in_default : goal.returns-in_default
returns-in_default c = found_nowhere _ c.in_default.is _ c.label_answer.ensures

pub returns : goal.returns
returns c = let a = c.args in
    found-there (file_verdict (extension_of a.ext.now) a.file.now) _ _ c.in-Ok.is
    c.label_answer.ensures
