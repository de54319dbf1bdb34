-- Two numbers, or nothing.
use native.Mathlib.Omega.{arith}
use Rattle.rules.specs.Vocabulary.{little, joined}
use Rattle.rules.specs.Pes.{shorts}
use Rattle.laws.specs.Buffers.{put-put, put-nothing}
use Rattle.pes_section_cmd.proofs.put_entry.Goals as goal

pub put_short-second-requires : goal.put_short-second-requires
unfolding shorts joined little
put_short-second-requires c = let r = rw c.if-logged.true at c.requires in omega arith

pub put_short-requires : goal.put_short-requires
unfolding shorts joined little
put_short-requires c = let r = rw c.if-logged.true at c.requires in omega arith

pub returns-then-logged : goal.returns-then-logged
unfolding shorts joined little
returns-then-logged c = let p = put-put c.put_short-second.ensures c.put_short.ensures in
    rw c.if-logged.true p

pub returns : goal.returns
unfolding shorts joined little
returns c = let a = c.args in rw c.if-logged.false (put-nothing a.out.now a.at)
