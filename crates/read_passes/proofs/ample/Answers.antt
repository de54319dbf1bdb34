-- What the tests leave out is false.
use Rattle.laws.specs.Tests.{false-true}
use Rattle.read_passes.proofs.ample.Goals as goal

pub returns-then-places-n : goal.returns-then-places-n
returns-then-places-n c = λ h. false-true h

pub returns-then-runs-n : goal.returns-then-runs-n
returns-then-runs-n c = λ h. false-true h
