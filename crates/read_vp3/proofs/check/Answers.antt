-- The colour blocks of the design part, or a refusal before it.
use Rattle.std.proofs.Common.{ap}
use Rattle.rules.specs.Vp3.{fault_in}
use Rattle.laws.specs.Exits.{exit}
use Rattle.read_vp3.proofs.check.Goals as goal

pub returns-in_err-design : goal.returns-in_err-design
unfolding fault_in
returns-in_err-design c = rw (exit c.from_residual.ensures.1) (ap fault_in c.in_err-design.ensures.tells)
