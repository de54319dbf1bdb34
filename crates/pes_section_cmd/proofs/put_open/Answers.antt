-- Four puts in a row are one.
use Prim.Native.Nat.{◌+◌, ◌≤◌}
use native.Mathlib.Omega.{arith}
use lib.ListN.{length}
use Rattle.rules.specs.Vocabulary.{little, joined}
use Rattle.rules.specs.Pes.{pes_open}
use Rattle.laws.specs.Buffers.{put-put, put-nothing}
use Rattle.pes_section_cmd.proofs.Lengths.{gap, open-long}
use Rattle.pes_section_cmd.proofs.put_open.Goals as goal

pub put_between-first-requires : goal.put_between-first-requires
unfolding little
put_between-first-requires c =
    let room : c.args.at + (length (gap c.args.s.sections) + 6) ≤ length c.args.out.now = rw open-long at c.requires in
    omega (arith, room)

pub put_short-second-requires : goal.put_short-second-requires
unfolding little
put_short-second-requires c =
    let room : c.args.at + (length (gap c.args.s.sections) + 6) ≤ length c.args.out.now = rw open-long at c.requires in
    omega (arith, room)

pub put_short-third-requires : goal.put_short-third-requires
unfolding little
put_short-third-requires c =
    let room : c.args.at + (length (gap c.args.s.sections) + 6) ≤ length c.args.out.now = rw open-long at c.requires in
    omega (arith, room)

pub put_short-requires : goal.put_short-requires
unfolding little
put_short-requires c =
    let room : c.args.at + (length (gap c.args.s.sections) + 6) ≤ length c.args.out.now = rw open-long at c.requires in
    omega (arith, room)

pub returns : goal.returns
unfolding pes_open joined
returns c = put-put c.put_between-first.ensures
    (put-put c.put_short-second.ensures
    (put-put c.put_short-third.ensures
    (put-put c.put_short.ensures (put-nothing _ _))))
