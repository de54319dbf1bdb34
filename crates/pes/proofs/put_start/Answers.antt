-- The parts in a row.
use Rattle.laws.specs.Buffers.{put-put, put-nothing}
use Rattle.rules.specs.Vocabulary.{little, joined}
use Rattle.rules.specs.Pes.{shorts}
use borrow.Author.Rules.{rules}
use Rattle.pes.proofs.put_start.Goals as goal

pub returns : goal.returns
unfolding joined shorts little
returns c =
    put-put c.put_text-word.ensures (put-put c.put_word-first.ensures (put-put c.put_short-second.ensures (put-put c.put_short-third.ensures
    (put-put c.put_short-fourth.ensures (put-put c.put_short-fifth.ensures (put-put c.put_short.ensures (put-nothing _ _)))))))

pub put_short-second-requires : goal.put_short-second-requires
unfolding joined little shorts
put_short-second-requires c = search rules

pub put_short-third-requires : goal.put_short-third-requires
unfolding joined little shorts
put_short-third-requires c = search rules

pub put_short-fourth-requires : goal.put_short-fourth-requires
unfolding joined little shorts
put_short-fourth-requires c = search rules

pub put_short-fifth-requires : goal.put_short-fifth-requires
unfolding joined little shorts
put_short-fifth-requires c = search rules

pub put_short-requires : goal.put_short-requires
unfolding joined little shorts
put_short-requires c = search rules
