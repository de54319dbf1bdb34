-- What is written is as far as the place; what comes is the sections of the commands left.
use Prim.Native.Nat.{◌-◌}
use lib.ListN.{drop}
use Rattle.rules.specs.Lists.{commands, threads_of}
use Rattle.rules.specs.Pes.{pes_start, pes_sections}
use Rattle.laws.specs.Buffers.{Writing}
use Rattle.pes_section_cmd.specs.States.{state_of, Near}
use Rattle.pes_sections.specs.States.{placed}
use Rattle.pes_sections.proofs.Steps.{Walk}
use Rattle.pes_sections.proofs.put_sections.Given as goal

abbrev pub invariant-loop-i : goal.invariant-loop-i
invariant-loop-i l =
    let cs = commands l.xs l.ys l.kinds in
    let ts = threads_of l.threads in
    Walk l.xs l.ys l.kinds l.n l.i (state_of l.s)
    × ((Near l.left l.bottom l.s.x l.s.y × placed l.left l.bottom cs)
    × Writing l.initial.out l.at (pes_sections l.left l.bottom ts (pes_start ts) cs) l.out l.to (pes_sections l.left l.bottom ts (state_of l.s) (drop l.i cs)))

abbrev pub decreases-loop-i : goal.decreases-loop-i
decreases-loop-i l = l.n - l.i
