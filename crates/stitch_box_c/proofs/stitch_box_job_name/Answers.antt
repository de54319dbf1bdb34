-- What the call for the name's place answers, in numbers.
use Rattle.stitch_box_c.proofs.Placing.{by_name}
use Rattle.stitch_box_c.proofs.stitch_box_job_name.Goals as goal

pub returns : goal.returns
returns c = let answer = c.job_name_answer-answer in
    rw (c.put_label.ensures.0, c.put_label.ensures.1, c.put_label.ensures.2) (by_name c.args.job.now answer.result answer.ensures)
