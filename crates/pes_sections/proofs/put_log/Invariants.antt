-- What is written is as far as the place; what comes is the log of the commands left.
use Prim.Native.Nat.{◌-◌}
use lib.ListN.{drop}
use Rattle.rules.specs.Lists.{commands, threads_of}
use Rattle.rules.specs.Pes.{pes_start, color_log, shorts}
use Rattle.laws.specs.Buffers.{Writing}
use Rattle.pes_section_cmd.specs.States.{state_of}
use Rattle.pes_sections.proofs.Steps.{Walk, Somewhere}
use Rattle.pes_sections.proofs.put_log.Given as goal

abbrev pub invariant-loop-i : goal.invariant-loop-i
invariant-loop-i l =
    let cs = commands l.xs l.ys l.kinds in
    let ts = threads_of l.threads in
    Walk l.xs l.ys l.kinds l.n l.i (state_of l.s)
    × Somewhere (λ t. Writing l.initial.out l.at (shorts (color_log ts 65 (pes_start ts) cs)) l.out l.to (shorts (color_log ts l.last t (drop l.i cs)))) (state_of l.s)

abbrev pub decreases-loop-i : goal.decreases-loop-i
decreases-loop-i l = l.n - l.i
