-- How many bytes thumbnails take: marks keep a picture's length, and there is a picture for the whole and for each colour block.
use Prim.Native.Nat.{ℕ, ◌+◌, ◌*◌}
use mathlib.Core.Path.{◌≡◌, ◌∙◌}
use mathlib.Core.List.{List}
use native.Mathlib.Omega.{arith}
use lib.IntN.{ℤ}
use lib.ListN.{length}
use Rattle.rules.specs.Vocabulary.{count}
use Rattle.rules.specs.Charts.{blank_icon}
use Rattle.rules.specs.Refusals.{changes}
use Rattle.rules.specs.Thumbnails.{marked, drawn, color_blocks}
use Rattle.rules.specs.declared.Cmd.{Cmd}
use Rattle.rules.specs.declared.Op.{Op}
use Rattle.rules.specs.declared.Scale.{Scale}
use Rattle.laws.specs.Lengths.{blank-length, length_marked, length-drawn, length-drawns, length-blocks}
use Rattle.thumbnail_tables.specs.Blocks.{block_icons}

pub marked-is : (s : Scale) (icon : List ℕ) (op : Op) (x y : ℤ) {icon' : List ℕ} → length icon ≡ 228 → icon' ≡ marked s icon op x y → length icon' ≡ 228
marked-is s icon op x y h e = rw e (length_marked s op icon x y ∙ h)

pub icon_long : (s : Scale) (cs : List Cmd) → length (drawn s blank_icon cs) ≡ 228
icon_long s cs = length-drawn s cs blank_icon ∙ blank-length

pub blocks-long : (s : Scale) (cs : List Cmd) → length (block_icons s cs) ≡ 228 * (1 + count changes cs)
unfolding block_icons
blocks-long s cs = length-drawns s (color_blocks cs) ∙ omega (arith, length-blocks cs)
