-- A stitch whose steps do not fit a byte.
use Rattle.std.specs.Prelude.{ℕ, List, [], ◌∷◌, ◌++◌, ℤ}
use Rattle.rules.specs.Vocabulary.{bits_of}
use Rattle.rules.specs.Vp3.{big}

abbrev pub long_of : ℤ → ℤ → List ℕ
long_of dx dy = (0x80 ∷ 0x01 ∷ []) ++ big 2 (bits_of 15 dx) ++ big 2 (bits_of 15 dy) ++ 0x80 ∷ 0x02 ∷ []
