-- The width and the height of a list, from the numbers of its bounds as a call passes them. Assumes nothing.
use Prim.Native.Nat.{ℕ}
use mathlib.Core.Path.{◌≡◌, ◌∙◌}
use mathlib.Core.List.{List}
use lib.IntN.{ℤ, ◌-ℤ◌, nat_abs}
use mir.Syntax.{w32}
use mir.Val.{SFits, to_z, of_z}
use mir.Facts.{to_z-of_z}
use Rattle.rules.specs.Lists.{width, height}
use Rattle.rules.specs.declared.Cmd.{Cmd}
use Rattle.geom.specs.Frames.{bounds_of}
use Rattle.geom.specs.declared.Bounds.{Bounds}

-- the distance of two numbers as a call passes them
abbrev passed : ℤ → ℤ → ℕ
passed lo hi = nat_abs (to_z w32 (of_z w32 hi) -ℤ to_z w32 (of_z w32 lo))

same : {lo hi : ℤ} → SFits w32 lo → SFits w32 hi → passed lo hi ≡ nat_abs (hi -ℤ lo)
same f g = rw (to_z-of_z f, to_z-of_z g)

module _ {b : Bounds} (cs : List Cmd) (e : b ≡ bounds_of cs) {r : ℕ} where
  pub width_is : SFits w32 b.min.x → SFits w32 b.max.x → r ≡ passed b.min.x b.max.x → r ≡ width cs
  unfolding bounds_of width
  width_is f g h = h ∙ same f g ∙ rw e

  pub height-is : SFits w32 b.min.y → SFits w32 b.max.y → r ≡ passed b.min.y b.max.y → r ≡ height cs
  unfolding bounds_of height
  height-is f g h = h ∙ same f g ∙ rw e
