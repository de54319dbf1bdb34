-- A PEC part has its count byte. Assumes nothing.
use mathlib.Core.Path.{sym, ◌∙◌}
use Rattle.read_refusals.proofs.Checked.{counted, uncounted, byte-there, byte-missing}
use Rattle.read_refusals.proofs.pec_front.Goals as goal

pub returns-in_default : goal.returns-in_default
returns-in_default c = let s = c.args.file.now in
    uncounted _ s (byte-missing _ _ s (sym c.byte_of.ensures ∙ c.in_default.is))

pub returns : goal.returns
returns c = let s = c.args.file.now in
    counted _ s (byte-there _ _ s (sym c.byte_of.ensures ∙ c.in-Some.is))
