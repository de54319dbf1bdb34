-- Four bytes are below 2 ^ 32.
use Rattle.read_records.specs.Words.{four_at}
use borrow.Author.Rules.{rules}
use Rattle.read_records.proofs.words.four.Goals as goal

pub returns : goal.returns
unfolding four_at
returns c = search rules
