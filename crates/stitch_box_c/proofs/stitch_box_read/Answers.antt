-- What `read` answers, in numbers.
use mathlib.Core.Path.{ap}
use Rattle.rules.specs.declared.Counts.{Counts}
use Rattle.stitch_box_c.proofs.stitch_box_read.Goals as goal
use Rattle.rules.specs.Refusals.{answer_number}

pub returns : goal.returns
returns c = record {
  answer = _;
  read = c.read-answer.ensures;
  number = c.answer_number.ensures;
  point_count = ap (λ (k : Counts). k.points) c.counts_of-c.ensures;
  run_count = ap (λ (k : Counts). k.runs) c.counts_of-c.ensures;
  block_count = ap (λ (k : Counts). k.blocks) c.counts_of-c.ensures;
  cut_count = ap (λ (k : Counts). k.cuts) c.counts_of-c.ensures;
}
