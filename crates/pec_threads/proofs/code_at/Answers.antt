-- From the first 256, or anew.
use native.Mathlib.Omega.{arith}
use Rattle.rules.specs.Lists.{threads_of}
use Rattle.pec_threads.proofs.Codes.{thread-small}
use Rattle.pec_threads.proofs.code_at.Goals as goal

pub overflow_cast-result : goal.overflow_cast-result
overflow_cast-result c = let a = c.args in
    omega (arith, c.requires.code a.i c.if-i-lt256.true, thread-small (threads_of a.threads.now) a.i)

pub returns-then-i-lt256 : goal.returns-then-i-lt256
returns-then-i-lt256 c = c.requires.code c.args.i c.if-i-lt256.true
