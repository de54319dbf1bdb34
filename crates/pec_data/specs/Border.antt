-- The border of the blank thumbnail, as the code lays it.
use Rattle.std.specs.Prelude.{ℕ, ◌||◌, List, [], ◌∷◌, eqb}
use Rattle.rules.specs.Vocabulary.{pick}

-- the byte at the left of a row from 2 to 35
unfoldable pub edge_of : ℕ → ℕ
edge_of row = pick (eqb row 2 || eqb row 35) 0x08 (pick (eqb row 3 || eqb row 34) 0x04 0x02)

-- the first and the last row
abbrev pub border : List ℕ
border = 0xF0 ∷ 0xFF ∷ 0xFF ∷ 0xFF ∷ 0xFF ∷ 0x0F ∷ []
