-- By the answer.
use mathlib.Core.Path.{refl}
use Rattle.rules.specs.Files.{write_length, write_distance}
use Rattle.stitch_box_c.proofs.put_written.Goals as goal
use Rattle.rules.specs.Refusals.{answer_number}

pub returns-in-Ok : goal.returns-in-Ok
unfolding answer_number write_length write_distance
returns-in-Ok c = rw c.in-Ok.is (refl, refl, refl)

pub returns-in-Err : goal.returns-in-Err
unfolding answer_number write_length write_distance
returns-in-Err c = rw c.in-Err.is (c.number.ensures, refl, refl)
