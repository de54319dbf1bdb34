-- Past the threads there is none.
use mathlib.Core.Path.{sym}
use native.Mathlib.Omega.{arith}
use lib.ListN.{get_or-eq_default}
use Rattle.rules.specs.Charts.{color}
use Rattle.rules.specs.Lists.{threads_of}
use Rattle.laws.specs.Threads.{length-threads}
use Rattle.pec_threads.proofs.thread_or_black.Goals as goal

pub thread_at-requires : goal.thread_at-requires
thread_at-requires c = omega (arith, c.if-i-threads.true, length-threads c.args.threads.now)

pub returns : goal.returns
returns c =
    sym (get_or-eq_default (threads_of c.args.threads.now) (color 0 0 0) (omega (arith, c.if-i-threads.false, length-threads c.args.threads.now)))
