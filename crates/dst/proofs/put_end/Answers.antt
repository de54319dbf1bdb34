-- Three parts and the mark.
use Rattle.rules.specs.Vocabulary.{joined}
use Rattle.rules.specs.Dst.{line}
use Rattle.laws.specs.Buffers.{put-put}
use Rattle.dst.proofs.put_end.Goals as goal

pub returns : goal.returns
unfolding line joined
returns c = let put-times = c.put_times-end in
    let put3 = c.put3-text in
    put-put put3.ensures (put-put put-times.ensures c.put2.ensures)
