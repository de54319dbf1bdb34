-- A stitch leads there; any other operation leaves it.
use mir.Facts.{to_z-of_z}
use Rattle.std.proofs.Common.{inl, inr}
use Rattle.rules.specs.Vp3.{last_stitch}
use Rattle.vp3_cmd.proofs.last_stitch.Goals as goal

pub returns-in-Stitch : goal.returns-in-Stitch
unfolding last_stitch
returns-in-Stitch c = rw c.in-Stitch.is (to_z-of_z c.ranges.to)

pub returns-in-Jump : goal.returns-in-Jump
unfolding last_stitch
returns-in-Jump c = elim c.in-Jump.is [ inl e ↦ rw e (to_z-of_z c.ranges.z) | inr k ↦ elim k [ inl e ↦ rw e (to_z-of_z c.ranges.z) | inr j ↦ elim j [ inl e ↦ rw e (to_z-of_z c.ranges.z) | inr e ↦ rw e (to_z-of_z c.ranges.z) ] ] ]
