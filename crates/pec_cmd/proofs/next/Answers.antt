-- Each operation has its own next state; a trim and the end keep what was.
use Rattle.std.proofs.Common.{inl, inr}
use Rattle.rules.specs.Pec.{pec_next}
use Rattle.pec_cmd.proofs.next.Goals as goal

pub returns-in-Stitch : goal.returns-in-Stitch
unfolding pec_next
returns-in-Stitch c = rw c.in-Stitch.is

pub returns-in-Jump : goal.returns-in-Jump
unfolding pec_next
returns-in-Jump c = rw c.in-Jump.is

pub returns-in-ColorChange : goal.returns-in-ColorChange
unfolding pec_next
returns-in-ColorChange c = rw c.in-ColorChange.is

pub returns-in-Trim : goal.returns-in-Trim
unfolding pec_next
returns-in-Trim c = elim c.in-Trim.is [ inl e ↦ rw e | inr e ↦ rw e ]
