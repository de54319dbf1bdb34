-- What is measured and what the commands left take come to the whole.
use Prim.Native.Nat.{◌-◌, ◌*◌, ◌≤◌}
use Rattle.rules.specs.Lists.{commands, threads_of}
use Rattle.pes_section_cmd.specs.States.{state_of}
use Rattle.pes_sections.proofs.Steps.{Walk, Somewhere, Sizing}
use Rattle.pes_sections.proofs.measured.Given as goal

abbrev pub invariant-loop-i : goal.invariant-loop-i
invariant-loop-i l =
    Walk l.xs l.ys l.kinds l.n l.i (state_of l.s)
    × (Somewhere (λ t. Sizing (threads_of l.threads) (commands l.xs l.ys l.kinds) l.i t l.bytes l.logged l.last) (state_of l.s)
    × ((l.bytes ≤ 16 * l.i)
    × (l.logged ≤ l.i)))

abbrev pub decreases-loop-i : goal.decreases-loop-i
decreases-loop-i l = l.n - l.i
