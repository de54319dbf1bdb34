-- The parts in a row.
use Rattle.rules.specs.Vocabulary.{little, joined}
use Rattle.rules.specs.Lists.{commands, threads_of}
use Rattle.rules.specs.Pes.{shorts}
use Rattle.laws.specs.Buffers.{put-put, put-nothing}
use Rattle.pes_blocks.proofs.Whole.{room-log, room-zeros}
use borrow.Author.Rules.{rules}
use Rattle.pes_blocks.proofs.put_end.Goals as goal

pub put_short-log-requires : goal.put_short-log-requires
unfolding joined little shorts
put_short-log-requires c = search rules

pub put_log-zeros-requires : goal.put_log-zeros-requires
put_log-zeros-requires c = let put-short = c.put_short-log in
    let a = c.args in
    let cs = commands a.xs.now a.ys.now a.kinds.now in
    let ts = threads_of a.threads.now in
    record { coded = c.requires.coded; kinds_len_bound = c.requires.kinds_len_bound; kinds_in_bounds = room-log a.n ts cs a.out.now a.at c.requires.kinds_in_bounds put-short.ensures }

pub put_times-requires : goal.put_times-requires
put_times-requires c = let put-log = c.put_log-zeros in let put-short = c.put_short-log in
    let a = c.args in
    let cs = commands a.xs.now a.ys.now a.kinds.now in
    let ts = threads_of a.threads.now in
    room-zeros a.n ts cs a.out.now a.at c.requires.kinds_in_bounds put-short.ensures put-log.ensures

pub returns : goal.returns
unfolding joined shorts little
returns c = let put-log = c.put_log-zeros in
    let put-short = c.put_short-log in
    put-put put-short.ensures (put-put put-log.ensures (put-put c.put_times.ensures (put-nothing _ _)))
