-- The parts in a row.
use Rattle.laws.specs.Buffers.{put-put, put-nothing}
use Rattle.rules.specs.Vocabulary.{little, joined}
use Rattle.rules.specs.Pes.{pes_string, shorts}
use Rattle.pes_blocks.proofs.put_seg.Goals as goal

pub returns : goal.returns
unfolding joined shorts pes_string little
returns c = let put-short4 = c.put_short-name in
    let put-short3 = c.put_short-text in let put-short2 = c.put_short-third in
    let put-short = c.put_short-second in
    put-put put-short.ensures (put-put put-short2.ensures
    (put-put put-short3.ensures (put-put put-short4.ensures (put-put c.put_text.ensures (put-nothing _ _)))))
