-- One more than the distance.
use Prim.Native.Nat.{ℕ, ◌+◌}
use mathlib.Core.Path.{ap, ◌∙◌}
use mir.Facts.{to_z-of_z}
use Rattle.thumbnails.proofs.places.Goals as goal

pub returns : goal.returns
returns c = ap (λ (k : ℕ). k + 1) (c.spread.ensures ∙ rw (to_z-of_z c.ranges.a, to_z-of_z c.ranges.b))
