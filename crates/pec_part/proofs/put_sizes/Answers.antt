-- The parts in a row.
use Rattle.laws.specs.Buffers.{put-put, put-nothing}
use Rattle.rules.specs.Vocabulary.{little, joined}
use borrow.Author.Rules.{rules}
use Rattle.pec_part.proofs.put_sizes.Goals as goal

pub returns : goal.returns
unfolding joined
returns c =
    put-put c.put2-long.ensures (put-put c.put_three-mark.ensures (put-put c.put3-wide.ensures (put-put c.put_short-high.ensures
    (put-put c.put_short-third.ensures (put-put c.put_short-fourth.ensures (put-put c.put_short.ensures (put-nothing _ _)))))))

pub put3-wide-requires : goal.put3-wide-requires
unfolding little
put3-wide-requires c = search rules

pub put_short-high-requires : goal.put_short-high-requires
unfolding little
put_short-high-requires c = search rules

pub put_short-third-requires : goal.put_short-third-requires
unfolding little
put_short-third-requires c = search rules

pub put_short-fourth-requires : goal.put_short-fourth-requires
unfolding little
put_short-fourth-requires c = search rules

pub put_short-requires : goal.put_short-requires
unfolding little
put_short-requires c = search rules
