-- By the extension.
use mathlib.Core.Path.{sym, ◌∙◌}
use Rattle.rules.specs.Promises.{bound_told}
use Rattle.stitch_box.proofs.write_bound.Goals as goal

pub returns-in_default : goal.returns-in_default
unfolding bound_told
returns-in_default c = let v = sym c.extension_of.ensures ∙ c.in_default.is in rw v

pub returns : goal.returns
unfolding bound_told
returns c = let v = sym c.extension_of.ensures ∙ c.in-Some.is in
    rw (v, c.bound_of.ensures, c.at_most-2.ensures, c.at_most.ensures)
