-- The pause and the two steps, each where the one before ended.
use native.Mathlib.Omega.{arith}
use mir.Facts.{to_z-of_z}
use Rattle.rules.specs.Pec.{pec_cmd}
use Rattle.laws.specs.Buffers.{put-put}
use Rattle.pec_cmd.specs.States.{state_of}
use Rattle.pec_cmd.proofs.Values.{stitch-long}
use Rattle.pec_cmd.proofs.put_stitch.Goals as goal

pub put_pause-x-requires : goal.put_pause-x-requires
put_pause-x-requires c =
    let long = stitch-long (state_of c.args.s) c.args.dx c.args.dy in
    rw (c.pauses.ensures, to_z-of_z c.ranges.dx, to_z-of_z c.ranges.dy) (omega (arith, long, c.requires.dy_in_bounds))

pub pec_value-y-requires : goal.pec_value-y-requires
pec_value-y-requires c =
    let long = stitch-long (state_of c.args.s) c.args.dx c.args.dy in
    let p = rw (c.pauses.ensures, to_z-of_z c.ranges.dx, to_z-of_z c.ranges.dy) at c.put_pause-x.ensures in
    record {
      z_bound = rw (to_z-of_z c.ranges.dx) (c.requires.step.x);
      z_in_bounds = rw (to_z-of_z c.ranges.dx) (omega (arith, long, c.requires.dy_in_bounds, p.ends, p.same));
    }

pub pec_value-requires : goal.pec_value-requires
pec_value-requires c =
    let long = stitch-long (state_of c.args.s) c.args.dx c.args.dy in
    let p = rw (c.pauses.ensures, to_z-of_z c.ranges.dx, to_z-of_z c.ranges.dy) at c.put_pause-x.ensures in
    let q = rw (to_z-of_z c.ranges.dx) at c.pec_value-y.ensures in
    record {
      z_bound = rw (to_z-of_z c.ranges.dy) (c.requires.step.y);
      z_in_bounds = rw (to_z-of_z c.ranges.dy) (omega (arith, long, c.requires.dy_in_bounds, p.ends, p.same, q.ends, q.same));
    }

pub returns : goal.returns
unfolding pec_cmd
returns c =
    let p = rw (c.pauses.ensures, to_z-of_z c.ranges.dx, to_z-of_z c.ranges.dy) at c.put_pause-x.ensures in
    let q = rw (to_z-of_z c.ranges.dx) at c.pec_value-y.ensures in
    let r = rw (to_z-of_z c.ranges.dy) at c.pec_value.ensures in
    put-put p (put-put q r)
