-- What is given so far, and what is left to give.
use mathlib.Core.Path.{ap}
use native.Mathlib.Omega.{arith}
use Rattle.rules.specs.Lists.{threads_of}
use Rattle.rules.specs.Pec.{Given}
use Rattle.laws.specs.Threads.{length-threads}
use Rattle.pec_palette.proofs.Giving.{giving-start, giving-more, giving-end, given_is}
use Rattle.pec_palette.proofs.unique_chart.Goals as goal

pub loop-i-init : goal.loop-i-init
loop-i-init c = rw c.requires (giving-start (threads_of c.args.threads.now))

pub thread_at-t-requires : goal.thread_at-t-requires
thread_at-t-requires c = omega (arith, length-threads c.args.threads.now)

pub new_entry-found-requires : goal.new_entry-found-requires
new_entry-found-requires c = omega (arith, length-threads c.args.threads.now)

pub loop-i-preserved : goal.loop-i-preserved
loop-i-preserved c = let l = c.loop-i in
    let s = c.args.threads.now in
    let t = c.thread_at-t in
    let e = c.new_entry-found in
    rw (c.filled-less.ensures, c.filled-more.ensures, given_is e.result t.result l.free l.chart)
    (giving-more (threads_of s) l.i (omega (arith, length-threads s)) t.ensures l.invariant e.ensures)

pub returns : goal.returns
returns c = let l = c.loop-i in
    let s = c.args.threads.now in
    ap (λ (g : Given). g.chart) (giving-end (threads_of s) l.i (omega (arith, length-threads s)) l.invariant)
