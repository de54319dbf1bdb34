-- `without` meets its contract. Assumes nothing.
use Rattle.std.specs.Prelude.{None}
use mathlib.Core.Path.{sym}
use native.Mathlib.Omega.{arith}
use lib.Seq.{set_out}
use Rattle.jef_threads.proofs.without.Goals as goal

pub returns-then-skip-ge79 : goal.returns-then-skip-ge79
returns-then-skip-ge79 c = let a = c.args in
    sym (set_out a.palette a.skip None (omega arith))
