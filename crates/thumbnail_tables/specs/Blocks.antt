-- The thumbnails of the colour blocks, and the same from a picture begun.
use Rattle.std.specs.Prelude.{ℕ, List, [], ◌∷◌, ◌++◌, map}
use Rattle.rules.specs.Charts.{blank_icon}
use Rattle.rules.specs.Lists.{op_of, is_change}
use Rattle.rules.specs.Thumbnails.{marked, drawn, color_blocks}
use Rattle.rules.specs.Vocabulary.{pick, joined}
use Rattle.rules.specs.declared.Cmd.{Cmd}
use Rattle.rules.specs.declared.Scale.{Scale}

unfoldable pub block_icons : Scale → List Cmd → List ℕ
block_icons s cs = joined (map (drawn s blank_icon) (color_blocks cs))

-- the picture of the whole by one scale, then those of the blocks by the other
abbrev pub icons_by : Scale → Scale → List Cmd → List ℕ
icons_by whole part cs = drawn whole blank_icon cs ++ block_icons part cs

-- the commands to come, the picture of the block being as far as icon
unfoldable pub icons_after : Scale → List ℕ → List Cmd → List ℕ
icons_after s icon [] = icon
icons_after s icon (c ∷ cs) = pick (is_change (op_of c.kind)) (icon ++ icons_after s blank_icon cs) (icons_after s (marked s icon (op_of c.kind) c.x c.y) cs)
