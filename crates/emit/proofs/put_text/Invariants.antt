-- One byte of the text after the other.
use lib.ListN.{drop}
use Rattle.laws.specs.Buffers.{Writing}
use Rattle.emit.proofs.put_text.Given as goal

abbrev pub invariant-loop-b : goal.invariant-loop-b
invariant-loop-b l = Writing l.initial.out l.at l.text l.out l.to (drop l.b-index l.text)
