-- The opening decides, and then the places.
use Rattle.std.specs.Prelude.{◌≡◌, Err}
use borrow.Author.Rules.{rules}
use mathlib.Core.Path.{sym, ◌∙◌}
use Rattle.read.proofs.Openings.{opened}
use Rattle.hoop.proofs.Parts.{not-told, is-told}
use Rattle.hoop.proofs.fits_stitch_file.Goals as goal

pub fits_part-requires : goal.fits_part-requires
fits_part-requires c = opened _ _ (sym c.front.ensures ∙ c.in_ok-head.was)

pub returns : goal.returns
returns c = is-told _ _ _ (sym c.front.ensures ∙ c.in_ok-head.was) c.fits_part.ensures

pub returns-in_err-head : goal.returns-in_err-head
returns-in_err-head c =
    let e : c.from_residual.result ≡ Err c.in_err-head.field-0.0 = search rules in
    e ∙ not-told _ _ _ (sym c.front.ensures ∙ c.in_err-head.was)
