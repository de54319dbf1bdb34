-- The pause, then the three bytes.
use lib.IntN.{pos}
use native.Mathlib.Omega.{arith}
use Rattle.rules.specs.Pec.{pec_cmd}
use Rattle.laws.specs.Buffers.{put-put, put_as}
use Rattle.pec_cmd.specs.States.{state_of}
use Rattle.pec_cmd.proofs.Values.{change-long}
use Rattle.pec_cmd.proofs.put_change.Goals as goal

pub put_pause-change-requires : goal.put_pause-change-requires
put_pause-change-requires c = let long = change-long (state_of c.args.s) (pos 0) (pos 0) in omega (arith, long, c.requires)

pub put3-requires : goal.put3-requires
put3-requires c =
    let long = change-long (state_of c.args.s) (pos 0) (pos 0) in
    let p = c.put_pause-change.ensures in
    omega (arith, long, c.requires, p.ends, p.same)

pub returns : goal.returns
unfolding pec_cmd
returns c = let p = c.put_pause-change.ensures in
    put_as (put-put p c.put3.ensures) (rw c.color_byte.ensures)
