-- What a table of colours holds.
use Rattle.std.specs.Prelude.{ℕ, ◌+◌, ◌/◌, ◌%◌, ◌≤◌, ◌<◌, ◌≡◌, List, get_or, set, Some, None, Option}
use Rattle.rules.specs.Files.{color_number}
use Rattle.rules.specs.Layout.{Stored, nothing, shade, charted}
use Rattle.rules.specs.declared.Color.{Color}

-- a cell of 32 bits: the chart entry, 255 for a colour of no chart, above the 24 bits of the colour
pub record Cell (entry : ℕ) (c : Color) (n : ℕ) : Type 0 where
  pub high : n / 16777216 ≡ entry
  pub low : n % 16777216 ≡ color_number c

-- n is the cell of what is stored
abbrev pub Held : Stored → ℕ → Type 0
Held nothing n = ⊥
Held (shade c) n = Cell 255 c n
Held (charted e c) n = Cell e c n

-- the first r cells are what is stored, and no more is stored; the cells from r on are free, and a reader takes only the first r
pub record Cells (f : ℕ → Stored) (cells : List ℕ) (r : ℕ) : Type 0 where
  pub room : r ≤ 256
  pub here : (k : ℕ) → k < r → Held (f k) (get_or cells k 0)
  pub past : (k : ℕ) → r ≤ k → f k ≡ nothing

-- a colour of no chart is put at cell n, if there is one, and r is the next cell
abbrev pub Added : Option Color → ℕ → List ℕ → ℕ → List ℕ → Type 0
Added None n cells r cells' = (r ≡ n) × (cells' ≡ cells)
Added (Some c) n cells r cells' = (r ≡ n + 1) × ((v : ℕ) × (Held (shade c) v × (cells' ≡ set cells n v)))
