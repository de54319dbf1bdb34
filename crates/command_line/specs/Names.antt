-- Parts of a file's name.
use Rattle.std.specs.Prelude.{ℕ, ◌+◌, List, [], eqb, drop, Some, None, Option}
use Rattle.rules.specs.Vocabulary.{last_where}

-- what follows a place found; nothing if it is missing
unfoldable pub behind : Option ℕ → List ℕ → List ℕ
behind (Some i) s = drop (i + 1) s
behind None s = []

-- what follows the last dot
unfoldable pub after_last_dot : List ℕ → List ℕ
after_last_dot name = behind (last_where (eqb 0x2E) name) name
