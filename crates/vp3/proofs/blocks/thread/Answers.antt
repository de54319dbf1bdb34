-- By the bytes that there are.
use mathlib.Core.Path.{sym}
use Rattle.vp3.proofs.Splits.{thread-black, thread-here}
use Rattle.vp3.proofs.blocks.thread.Goals as goal

pub returns-then-threads-k : goal.returns-then-threads-k
returns-then-threads-k c = let a = c.args in sym (thread-black a.threads.now a.k c.if-threads-k.true)

pub returns : goal.returns
returns c =
    let a = c.args in
    sym (thread-here a.threads.now a.k c.if-threads-k.false)
