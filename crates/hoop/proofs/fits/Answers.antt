-- By the extension.
use mathlib.Core.Path.{sym, ◌∙◌}
use mir.Facts.{to_z-of_z}
use Rattle.rules.specs.Files.{file_verdict}
use Rattle.rules.specs.Hoop.{fits_told, fits_answer}
use Rattle.rules.specs.Refusals.{verdict}
use Rattle.hoop.proofs.fits.Goals as goal

pub returns-in_default : goal.returns-in_default
unfolding fits_told file_verdict verdict fits_answer
returns-in_default c = rw (sym c.extension_of.ensures ∙ c.in_default.is)

pub returns : goal.returns
returns c = let f = c.ranges in
    rw (sym c.extension_of.ensures ∙ c.in-Some.is)
    (simp (to_z-of_z f.left, to_z-of_z f.right, to_z-of_z f.top, to_z-of_z f.bottom) at c.fits_stitch_file.ensures)
