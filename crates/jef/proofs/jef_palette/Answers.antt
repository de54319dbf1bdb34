-- By whether there is a thread.
use mathlib.Core.Path.{ap}
use native.Mathlib.Omega.{arith}
use lib.ListN.{length}
use Rattle.laws.specs.Buffers.{put_as}
use Rattle.laws.specs.Little.{length-little}
use Rattle.jef.proofs.Words.{table_none, table-some}
use Rattle.jef.proofs.Offs.{off-none}
use Rattle.jef.proofs.jef_palette.Goals as goal

pub put_word-requires : goal.put_word-requires
put_word-requires c = omega (arith, ap length (table_none c.args.threads.now c.if-threads-lt3.true), length-little 4 1)

pub returns-then-threads-lt3 : goal.returns-then-threads-lt3
returns-then-threads-lt3 c =
    let s = c.args.threads.now in
    (put_as c.put_word.ensures (table_none s c.if-threads-lt3.true), off-none s c.if-threads-lt3.true)

pub put_entries-requires : goal.put_entries-requires
put_entries-requires c = omega (arith, ap length (table-some c.args.threads.now c.if-threads-lt3.false))

pub returns : goal.returns
returns c =
    let entries = c.put_entries.ensures in
    (put_as entries.0 (table-some c.args.threads.now c.if-threads-lt3.false), entries.1)
