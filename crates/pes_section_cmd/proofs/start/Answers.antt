-- No command yet: the first thread's entry, and an end before.
use Rattle.rules.specs.Pes.{pes_start}
use Rattle.pes_section_cmd.proofs.start.Goals as goal

pub returns : goal.returns
unfolding pes_start
returns c = rw c.code_at.ensures
