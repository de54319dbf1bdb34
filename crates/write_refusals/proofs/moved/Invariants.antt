-- What is gathered tells the commands before i, and what is left the others, from the place before.
use Rattle.rules.specs.Lists.{commands, any_from}
use Rattle.rules.specs.Refusals.{moves, moved}
use Rattle.write_refusals.proofs.Walk.{Told, Held}
use Rattle.write_refusals.proofs.moved.Given as goal

abbrev pub invariant-loop-i : goal.invariant-loop-i
invariant-loop-i l =
    Held l.xs l.ys l.kinds l.n × Told (moved (commands l.xs l.ys l.kinds)) (any_from moves l.x l.y) (commands l.xs l.ys l.kinds) l.bad l.i
