-- Three bytes. Assumes nothing.
use Rattle.rules.specs.Files.{color_number}
use borrow.Author.Rules.{rules}
use Rattle.read_header.proofs.number_of.Goals as goal

pub returns : goal.returns
unfolding color_number
returns c = search rules
