-- Three bytes in a row.
use mathlib.Core.Path.{sym}
use native.Mathlib.Omega.{arith}
use Rattle.laws.specs.Threads.{length-threads, thread-is}
use Rattle.pec_threads.proofs.thread_at.Goals as goal

pub overflow_mul-result : goal.overflow_mul-result
overflow_mul-result c = omega (arith, c.well_formed, length-threads c.args.threads.now)

pub bounds-threads-i : goal.bounds-threads-i
bounds-threads-i c = omega (arith, c.well_formed, length-threads c.args.threads.now)

pub overflow_mul-result-2 : goal.overflow_mul-result-2
overflow_mul-result-2 c = omega (arith, c.well_formed, length-threads c.args.threads.now)

pub overflow_add-result : goal.overflow_add-result
overflow_add-result c = omega (arith, c.well_formed, length-threads c.args.threads.now)

pub bounds-threads-i-2 : goal.bounds-threads-i-2
bounds-threads-i-2 c = omega (arith, c.well_formed, length-threads c.args.threads.now)

pub overflow_mul-result-3 : goal.overflow_mul-result-3
overflow_mul-result-3 c = omega (arith, c.well_formed, length-threads c.args.threads.now)

pub overflow_add-result-2 : goal.overflow_add-result-2
overflow_add-result-2 c = omega (arith, c.well_formed, length-threads c.args.threads.now)

pub bounds-threads-i-3 : goal.bounds-threads-i-3
bounds-threads-i-3 c = omega (arith, c.well_formed, length-threads c.args.threads.now)

pub returns : goal.returns
returns c = sym (thread-is c.args.threads.now (c.args.i) c.requires)
