-- A place on one axis, scaled.
use Rattle.std.specs.Prelude.{ℤ, Float}
use Rattle.std.specs.Float.{binary64}
use Rattle.std.specs.Float.Ieee.{add, mul}
use Rattle.rules.specs.Thumbnails.{real}

-- what `pixel_at` takes the floor of
abbrev pub scaled_at : ℤ → Float → Float → Float
scaled_at z scale t = add binary64 (mul binary64 (real z) scale) t
