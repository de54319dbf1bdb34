-- By what the read answers.
use Rattle.stitch_box.specs.Back.{back_answer}
use Rattle.stitch_box.proofs.read_back.Goals as goal

pub returns-in-Ok : goal.returns-in-Ok
unfolding back_answer
returns-in-Ok c = let read' = c.read-told in
    record { answer = _; read = read'.ensures; told = rw c.in-Ok.is }

pub returns-in-Err : goal.returns-in-Err
unfolding back_answer
returns-in-Err c = let read' = c.read-told in
    record { answer = _; read = read'.ensures; told = rw c.in-Err.is }
