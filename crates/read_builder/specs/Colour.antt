-- The colour of block k by cells of chart entry and colour, one for each block that the file stores something for.
use Rattle.std.specs.Prelude.{ℕ, ◌%◌, List, ltb, length, get_or}
use Rattle.rules.specs.Files.{or_default}
use Rattle.rules.specs.Layout.{nothing}
use Rattle.rules.specs.Vocabulary.{pick}

unfoldable pub colour_in : List ℕ → ℕ → ℕ
colour_in cells k = pick (ltb k (length cells)) (get_or cells k 0 % 16777216) (or_default nothing k)
