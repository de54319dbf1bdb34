-- What the functions on places and bounds give.
use Rattle.std.specs.Prelude.{List, ℤ, pos, negsuc, ◌-ℤ◌}
use Rattle.std.specs.Int.Signed.{lt_z}
use Rattle.rules.specs.Vocabulary.{pick}
use Rattle.rules.specs.Lists.{min_z, max_z, min_x, min_y, max_x, max_y}
use Rattle.rules.specs.declared.Cmd.{Cmd}
use Rattle.geom.specs.declared.P.{P}
use Rattle.geom.specs.declared.Bounds.{Bounds}

abbrev pub place : ℤ → ℤ → P
place x y = record { x = x; y = y }

abbrev pub frame : ℤ → ℤ → ℤ → ℤ → Bounds
frame x y x' y' = record { min = place x y; max = place x' y' }

abbrev pub nothing : Bounds
nothing = frame (pos 2147483647) (pos 2147483647) (negsuc 2147483647) (negsuc 2147483647)

abbrev pub added : Bounds → P → Bounds
added b p = frame (min_z b.min.x p.x) (min_z b.min.y p.y) (max_z b.max.x p.x) (max_z b.max.y p.y)

-- 0 where there is no place
abbrev pub width_of : Bounds → ℤ
width_of b = pick (lt_z b.max.x b.min.x) (pos 0) (b.max.x -ℤ b.min.x)

abbrev pub height_of : Bounds → ℤ
height_of b = pick (lt_z b.max.x b.min.x) (pos 0) (b.max.y -ℤ b.min.y)

-- the bounds of a list of commands: (0, 0) alone if it is empty
unfoldable pub bounds_of : List Cmd → Bounds
bounds_of cs = frame (min_x cs) (min_y cs) (max_x cs) (max_y cs)
