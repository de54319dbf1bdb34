-- By the extension.
use mathlib.Core.Path.{sym, ◌∙◌}
use Rattle.rules.specs.Files.{read_verdict, read_answer, filled}
use Rattle.rules.specs.Refusals.{verdict}
use Rattle.read.proofs.read.Goals as goal

pub returns-in_default : goal.returns-in_default
unfolding read_verdict verdict read_answer filled
returns-in_default c = let v = sym c.extension_of.ensures ∙ c.in_default.is in record { answered = rw v; places_are = rw v; runs_are = rw v; blocks_are = rw v }

pub returns : goal.returns
returns c =
    rw (sym c.extension_of.ensures ∙ c.in-Some.is)
    c.read_stitch_file.ensures
