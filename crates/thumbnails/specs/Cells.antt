-- The pixel painted last, as the places that lie in it: where a stitch lies there again, nothing is to be painted.
use Rattle.std.specs.Prelude.{ℕ, ◌≡◌, Bool, true, false, List, Float}
use Rattle.std.specs.Float.{binary64}
use Rattle.std.specs.Float.Ieee.{lt, of_bits}
use Rattle.rules.specs.Thumbnails.{f1, floor_of, within, pixel}
use Rattle.rules.specs.Vocabulary.{pick}
use Rattle.thumbnails.specs.declared.Cell.{Cell}

-- from 1 to before 0: no place lies in it
abbrev pub no_cell : Cell
no_cell = record { left = f1; right = of_bits binary64 0; top = f1; bottom = of_bits binary64 0 }

-- a place lies in a cell; no NaN does
unfoldable pub is_in : Cell → Float → Float → Bool
is_in c x y = pick (lt x c.left) false (pick (lt y c.top) false (pick (lt x c.right) (lt y c.bottom) false))

-- the places in c lie in the pixel in column x and row y
abbrev pub Covers : Cell → ℕ → ℕ → Type 0
Covers c x y = (a b : Float) → is_in c a b ≡ true → (within (floor_of a) ≡ x) × (within (floor_of b) ≡ y)

-- the places in c are painted already
abbrev pub Seen : Cell → List ℕ → Type 0
Seen c icon = (a b : Float) → is_in c a b ≡ true → pixel icon (within (floor_of a)) (within (floor_of b)) ≡ icon
