-- Five puts in a row are one.
use Rattle.rules.specs.Vocabulary.{joined}
use Rattle.rules.specs.Vp3.{big, text8, text16, vp3_opening, producer}
use Rattle.laws.specs.Buffers.{put-put, put-nothing}
use Rattle.vp3.specs.Heads.{opening_text}
use borrow.Author.Rules.{rules}
use Rattle.vp3.proofs.heads.put_opening.Goals as goal

pub returns : goal.returns
unfolding opening_text joined vp3_opening producer
returns c =
    put-put (put-put c.put_text-zero.ensures c.put-producer.ensures)
    (put-put c.put_text16-mark.ensures (put-put c.put3-size.ensures (put-put c.put_be32.ensures (put-nothing _ _))))

pub put3-size-requires : goal.put3-size-requires
unfolding text16 text8 big joined
put3-size-requires c = search rules

pub put_be32-requires : goal.put_be32-requires
unfolding text16 text8 big joined
put_be32-requires c = search rules
