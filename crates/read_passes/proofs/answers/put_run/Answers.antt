-- A store where a run is open.
use native.Mathlib.Omega.{arith}
use mathlib.Core.Path.{ap}
use lib.ListN.{length}
use Rattle.rules.specs.Answers.{run_of}
use Rattle.read_builder.proofs.Parts.{in-run}
use borrow.Author.Rules.{rules}
use Rattle.read_passes.proofs.answers.put_run.Goals as goal

pub returns-then-b-eq0 : goal.returns-then-b-eq0
unfolding run_of
returns-then-b-eq0 c = search rules

pub bounds-runs-at : goal.bounds-runs-at
bounds-runs-at c = omega (arith, ap length (in-run _ c.if-b-eq0.false).run)

pub returns : goal.returns
unfolding run_of
returns c = rw (in-run _ c.if-b-eq0.false).run
