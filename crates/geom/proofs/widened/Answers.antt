-- What std's `min` and `max` give is as wanted.
use mathlib.Core.Path.{◌∙◌}
use mir.Syntax.{w32}
use Rattle.laws.specs.Ints.{ret}
use Rattle.geom.proofs.Extremes.{min-is, max-is}
use Rattle.geom.proofs.widened.Goals as goal

pub returns : goal.returns
returns c =
    let r = c.ranges in
    rw (
      ret w32 c.min.result c.min.type_inv ∙ min-is r.x0 r.x c.min.ensures.value,
      ret w32 c.min-2.result c.min-2.type_inv ∙ min-is r.y0 r.y c.min-2.ensures.value,
      ret w32 c.max.result c.max.type_inv ∙ max-is r.x1 r.x c.max.ensures.value,
      ret w32 c.max-2.result c.max-2.type_inv ∙ max-is r.y1 r.y c.max-2.ensures.value,
    )
