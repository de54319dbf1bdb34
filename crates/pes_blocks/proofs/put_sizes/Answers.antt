-- The parts in a row.
use Rattle.laws.specs.Buffers.{put-put, put-nothing}
use Rattle.rules.specs.Vocabulary.{little, joined}
use Rattle.rules.specs.Pes.{shorts}
use borrow.Author.Rules.{rules}
use Rattle.pes_blocks.proofs.put_sizes.Goals as goal

pub put_short-second-requires : goal.put_short-second-requires
unfolding joined little shorts
put_short-second-requires c = search rules

pub put_short-third-requires : goal.put_short-third-requires
unfolding joined little shorts
put_short-third-requires c = search rules

pub put_short-fourth-requires : goal.put_short-fourth-requires
unfolding joined little shorts
put_short-fourth-requires c = search rules

pub put_short-fifth-requires : goal.put_short-fifth-requires
unfolding joined little shorts
put_short-fifth-requires c = search rules

pub put_short-zeros-requires : goal.put_short-zeros-requires
unfolding joined little shorts
put_short-zeros-requires c = search rules

pub put_times-requires : goal.put_times-requires
unfolding joined little shorts
put_times-requires c = search rules

pub returns : goal.returns
unfolding joined shorts little
returns c = let put-short5 = c.put_short-zeros in
    let put-short4 = c.put_short-fifth in
    let put-short3 = c.put_short-fourth in let put-short2 = c.put_short-third in
    let put-short = c.put_short-second in
    put-put put-short.ensures (put-put put-short2.ensures
    (put-put put-short3.ensures (put-put put-short4.ensures
    (put-put put-short5.ensures (put-put c.put_times.ensures (put-nothing _ _))))))
