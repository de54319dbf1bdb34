-- Three bytes, and the colour part.
use Rattle.std.proofs.Common.{Err}
use mir.Facts.{to_z-of_z}
use Rattle.rules.specs.Vp3.{skip}
use Rattle.laws.specs.Exits.{exit}
use Rattle.read_vp3_fields.proofs.Within.{fixed-err, behind, block_not, block_on}
use Rattle.read_vp3_fields.proofs.block_at.Goals as goal

pub returns-in_err-at : goal.returns-in_err-at
unfolding skip
returns-in_err-at c =
    rw (exit c.from_residual.ensures.1)
    (block_not _ _ _ c.requires.1 (λ go. fixed-err _ _ _ c.requires.1 3 c.requires.0 _ c.in_err-at.ensures))

pub returns-in_err-part : goal.returns-in_err-part
returns-in_err-part c =
    rw (exit c.from_residual-in_err-part.ensures.1)
    (block_not _ _ _ c.requires.1 (behind _ _ _ c.requires.1 (Err _) c.in_ok-at.ensures c.in_err-part.ensures))

pub returns : goal.returns
returns c =
    block_on _ _ _ c.requires.1 c.in_ok-at.ensures c.in_ok-part.ensures _
    (rw (to_z-of_z c.ranges.x, to_z-of_z c.ranges.y) at c.color_part.ensures)
