-- What is gathered tells the commands before i, and what is left the others.
use Rattle.rules.specs.Vocabulary.{any}
use Rattle.rules.specs.Lists.{commands}
use Rattle.rules.specs.Refusals.{outside, place_outside}
use Rattle.write_refusals.proofs.Walk.{Told, Held}
use Rattle.write_refusals.proofs.place_outside.Given as goal

abbrev pub invariant-loop-i : goal.invariant-loop-i
invariant-loop-i l =
    Held l.xs l.ys l.kinds l.n × Told (place_outside (commands l.xs l.ys l.kinds)) (any outside) (commands l.xs l.ys l.kinds) l.bad l.i
