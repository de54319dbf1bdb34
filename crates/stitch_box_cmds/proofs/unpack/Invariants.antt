-- At turn i each of the three slices is what it was with the fields of the first i commands stored from 0 on.
use Rattle.std.proofs.Common.{◌≡◌, take}
use Rattle.std.proofs.lemmas.List.Edits.{sets}
use Rattle.rules.specs.Promises.{xs_of, ys_of, kinds_of}
use Rattle.stitch_box_cmds.proofs.unpack.Given as goal

abbrev pub invariant-loop-i : goal.invariant-loop-i
invariant-loop-i l = record {
  across : l.xs ≡ sets l.initial.xs 0 (xs_of (take l.i l.cmds));
  down : l.ys ≡ sets l.initial.ys 0 (ys_of (take l.i l.cmds));
  kinds_are : l.kinds ≡ sets l.initial.kinds 0 (kinds_of (take l.i l.cmds));
}
