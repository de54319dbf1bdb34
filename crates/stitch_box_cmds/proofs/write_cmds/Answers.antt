-- By the extension.
use Rattle.std.proofs.Common.{sym, ◌∙◌}
use Rattle.rules.specs.Files.{write_verdict, write_answer, filled}
use Rattle.rules.specs.Refusals.{verdict}
use Rattle.stitch_box_cmds.proofs.write_cmds.Goals as goal

pub returns-in_default : goal.returns-in_default
unfolding write_verdict verdict write_answer filled
returns-in_default c = let v = sym c.extension_of.ensures ∙ c.in_default.is in record { answered = rw v; stored = rw v }
