-- One byte of the text after the other, a zero before each.
use lib.ListN.{drop}
use Rattle.laws.specs.Buffers.{Writing}
use Rattle.vp3_cmd.proofs.Bytes.{wide}
use Rattle.vp3_cmd.proofs.put_wide.Given as goal

abbrev pub invariant-loop-b : goal.invariant-loop-b
invariant-loop-b l = Writing l.initial.out l.at (wide l.text) l.out l.to (wide (drop l.b-index l.text))
