-- By the answer.
use mathlib.Core.Path.{refl}
use Rattle.rules.specs.Jobs.{export_length}
use Rattle.stitch_box_c.proofs.put_exported.Goals as goal
use Rattle.rules.specs.Refusals.{answer_number}

pub returns-in-Ok : goal.returns-in-Ok
unfolding answer_number export_length
returns-in-Ok c = rw c.in-Ok.is (refl, refl)

pub returns-in-Err : goal.returns-in-Err
unfolding answer_number export_length
returns-in-Err c = rw c.in-Err.is (c.number.ensures, refl)
