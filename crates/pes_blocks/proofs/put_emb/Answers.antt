-- The parts in a row.
use Rattle.laws.specs.Buffers.{put-put, put-nothing}
use Rattle.rules.specs.Vocabulary.{little, joined}
use Rattle.rules.specs.Pes.{pes_string, shorts}
use Rattle.pes_blocks.proofs.put_emb.Goals as goal

pub returns : goal.returns
unfolding joined shorts pes_string little
returns c = let put-text = c.put_text-zeros in
    let put-short = c.put_short-text in
    put-put put-short.ensures (put-put put-text.ensures (put-put c.put_times.ensures (put-nothing _ _)))
