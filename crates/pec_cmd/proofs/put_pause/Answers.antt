-- Two bytes, or none.
use Rattle.rules.specs.Pec.{pause}
use Rattle.laws.specs.Buffers.{put-nothing}
use Rattle.pec_cmd.proofs.put_pause.Goals as goal

pub put2-requires : goal.put2-requires
unfolding pause
put2-requires c = rw c.if-needed.true at c.requires

pub returns-then-needed : goal.returns-then-needed
unfolding pause
returns-then-needed c = rw c.if-needed.true c.put2.ensures

pub returns : goal.returns
unfolding pause
returns c = rw c.if-needed.false (put-nothing c.args.out.now c.args.at)
