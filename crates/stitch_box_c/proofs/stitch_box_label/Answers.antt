-- What the call for the label's place answers, in numbers.
use Rattle.rules.specs.Files.{file_verdict, label_told}
use Rattle.rules.specs.Refusals.{extension_of}
use Rattle.stitch_box_c.proofs.Placing.{by_answer}
use Rattle.stitch_box_c.proofs.stitch_box_label.Goals as goal

pub returns : goal.returns
returns c = let label-answer = c.label_answer-answer in
    let s = c.args.file.now in
    let x = extension_of c.args.ext.now in
    let t = by_answer (file_verdict x s) s (label_told x s) label-answer.result label-answer.ensures in
    record { number = rw c.put_label.ensures.0 t.0; place = rw (c.put_label.ensures.1, c.put_label.ensures.2) t.1 }
