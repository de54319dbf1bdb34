-- What is gathered tells the commands before i, and what is left the others, from the place before. All places are in range, so no
-- difference is past 32,000.
use mathlib.Core.Bool.{Bool, ◌&&◌, not}
use lib.IntN.{ℤ, pos, ◌-ℤ◌}
use Rattle.rules.specs.Vocabulary.{between}
use Rattle.rules.specs.Lists.{commands, any_from}
use Rattle.rules.specs.declared.Cmd.{Cmd}
use Rattle.laws.specs.Places.{Small}
use Rattle.write_refusals.proofs.Walk.{Told, Held}
use Rattle.write_refusals.proofs.step_too_long.Given as goal

-- a step past the limits lo and hi
abbrev pub past : ℤ → ℤ → ℤ → ℤ → Cmd → Bool
past lo hi x y c = not (between lo hi (c.x -ℤ x) && between lo hi (c.y -ℤ y))

abbrev pub invariant-loop-i : goal.invariant-loop-i
invariant-loop-i l =
    Held l.xs l.ys l.kinds l.n
    × ((Small l.x × Small l.y)
    × (let p = past l.lo l.hi in
    Told (any_from p (pos 0) (pos 0) (commands l.xs l.ys l.kinds)) (any_from p l.x l.y) (commands l.xs l.ys l.kinds) l.bad l.i))
