-- The threads before i have their entries; the places behind have black's.
use native.Mathlib.Omega.{arith}
use Rattle.rules.specs.Charts.{color}
use Rattle.rules.specs.Lists.{threads_of}
use Rattle.laws.specs.Threads.{length-threads}
use Rattle.pec_threads.proofs.Codes.{coding-start, coding-more, coding-done, code-small}
use Rattle.pec_threads.proofs.thread_codes.Goals as goal

pub code_in-black-requires : goal.code_in-black-requires
code_in-black-requires c = c.pec_palette-chart.ensures

pub overflow_cast-black : goal.overflow_cast-black
overflow_cast-black c = omega (arith, c.code_in-black.ensures, code-small (color 0 0 0))

pub loop-i-init : goal.loop-i-init
loop-i-init c = (omega arith, coding-start (threads_of c.args.threads.now) c.code_in-black.ensures)

pub thread_at-requires : goal.thread_at-requires
thread_at-requires c = omega (arith, c.min-n.ensures, length-threads c.args.threads.now)

pub code_in-requires : goal.code_in-requires
code_in-requires c = c.pec_palette-chart.ensures

pub overflow_cast-codes : goal.overflow_cast-codes
overflow_cast-codes c = omega (arith, c.code_in.ensures, code-small c.thread_at.result)

pub bounds-codes-i : goal.bounds-codes-i
bounds-codes-i c = omega arith

pub loop-i-preserved : goal.loop-i-preserved
loop-i-preserved c = let loop = c.loop-i in
    (omega arith, coding-more (threads_of c.args.threads.now) loop.invariant.1 (omega (arith, c.min-n.ensures)) c.thread_at.ensures c.code_in.ensures)

pub returns : goal.returns
returns c =
    let s = c.args.threads.now in
    coding-done (threads_of s) c.loop-i.invariant.1 (λ k l h. omega (arith, c.min-n.ensures, length-threads s))
