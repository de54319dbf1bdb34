-- A signed number of four bytes, if they are all there.
use Rattle.std.specs.Prelude.{ℕ, ◌+◌, List, leb, length, Some, None, Option, ℤ}
use Rattle.rules.specs.Vocabulary.{pick}
use Rattle.rules.specs.Text.{word_at}

abbrev pub word_of : ℕ → List ℕ → Option ℤ
word_of at s = pick (leb (at + 4) (length s)) (Some (word_at at s)) None
