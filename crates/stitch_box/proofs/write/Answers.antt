-- By the extension.
use mathlib.Core.Path.{sym, ◌∙◌}
use Rattle.rules.specs.Files.{write_verdict, write_answer, filled}
use Rattle.rules.specs.Refusals.{verdict}
use Rattle.stitch_box.proofs.write.Goals as goal

pub returns-in_default : goal.returns-in_default
unfolding write_verdict verdict write_answer filled
returns-in_default c = let v = sym c.extension_of.ensures ∙ c.in_default.is in record { answered = rw v; stored = rw v }

pub returns : goal.returns
returns c = let named = c.in-Some in
    let extension-of = c.extension_of in
    let v = sym extension-of.ensures ∙ named.is in rw v c.write_stitch_file.ensures
