-- The cells of columns and rows, the table of an axis, and a bit set by two cells.
use Rattle.std.specs.Prelude.{◌≡◌, ℕ, ◌+◌, ◌*◌, ◌/◌, ◌%◌, ◌^◌, ◌<◌, ◌≤◌, Bool, true, false, List, length, ℤ, pos, ◌+ℤ◌, ◌≤ℤ◌, ◌<ℤ◌, bit_or, nat_lt, slice_index, slice_index_or, slice_set, Float}
use Rattle.rules.specs.Vocabulary.{pick}
use Rattle.rules.specs.Thumbnails.{pixel_at}
use Rattle.rules.specs.declared.Cmd.{Cmd}
use Rattle.laws.specs.Listing.{no_cmd}

-- a column's byte in a row, and 256 times its bit; where a row begins; 0 outside the picture
unfoldable pub column_cell : ℕ → ℕ
column_cell x = pick (nat_lt x 48) (x / 8 + 256 * 2 ^ (x % 8)) 0

unfoldable pub row_cell : ℕ → ℕ
row_cell y = pick (nat_lt y 38) (y * 6) 0

-- of a row or of a column
abbrev pub cell_of : Bool → ℕ → ℕ
cell_of true p = row_cell p
cell_of false p = column_cell p

-- the table holds the cells of n places from one on
abbrev pub Filled : Bool → Float → Float → ℤ → ℕ → List ℕ → Type 0
Filled down scale t from n table = (k : ℕ) → k < n → slice_index table k ≡ cell_of down (pixel_at (from +ℤ pos k) scale t)

-- two cells lead into the picture
pub record Inside (column row : ℕ) : Type 0 where
  pub across : column % 256 ≤ 5
  pub down : row ≤ 222

-- those of w columns and h rows
abbrev pub AllInside : ℕ → ℕ → List ℕ → List ℕ → Type 0
AllInside w h columns rows = (x y : ℕ) → x < w → y < h → ((x < length columns) × (y < length rows)) × Inside (slice_index columns x) (slice_index rows y)

unfoldable pub bit_set : List ℕ → ℕ → ℕ → List ℕ
bit_set icon column row = slice_set icon (row + column % 256) (bit_or (slice_index icon (row + column % 256)) (column / 256))

-- a place in n places from one on
pub record From (from : ℤ) (n : ℕ) (z : ℤ) : Type 0 where
  pub start : from ≤ℤ z
  pub end : z <ℤ (from +ℤ pos n)

-- every command of a list is in w columns from left and in h rows from top
abbrev pub Framed : ℤ → ℕ → ℤ → ℕ → List Cmd → Type 0
Framed left w top h cs = (i : ℕ) → i < length cs → From left w (slice_index_or cs i no_cmd).x × From top h (slice_index_or cs i no_cmd).y
