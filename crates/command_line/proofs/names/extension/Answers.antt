-- `extension` is what follows the last dot. Assumes nothing.
use mathlib.Core.Path.{sym, ◌∙◌}
use Rattle.command_line.specs.Names.{after_last_dot}
use Rattle.command_line.proofs.Lasts.{behind-is, behind-none}
use Rattle.command_line.proofs.names.extension.Goals as goal

pub returns-in-Some : goal.returns-in-Some
unfolding after_last_dot
returns-in-Some c = behind-is c.args.name.now (sym c.last.ensures.is ∙ c.in-Some.is)

pub returns-in-None : goal.returns-in-None
unfolding after_last_dot
returns-in-None c = behind-none c.args.name.now (sym c.last.ensures.is ∙ c.in-None.is)
