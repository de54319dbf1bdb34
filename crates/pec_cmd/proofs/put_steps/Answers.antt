-- Two short steps are their low seven bits, others go one after the other.
use mathlib.Core.Path.{◌≡◌, sym, ◌∙◌}
use mathlib.Core.Bool.{true}
use native.Mathlib.Omega.{arith}
use lib.ListN.{length-append}
use mir.Facts.{to_z-of_z}
use Rattle.rules.specs.Pec.{pec_value}
use Rattle.laws.specs.Buffers.{put-put, put_as}
use Rattle.pec_cmd.proofs.Values.{short, short-abs, both-short, both_bytes}
use Rattle.pec_cmd.proofs.put_steps.Goals as goal

pub low7-requires : goal.low7-requires
low7-requires c =
    let both : (short c.args.dx ≡ true) × (short c.args.dy ≡ true) =
    let long = rw (to_z-of_z c.ranges.dx, to_z-of_z c.ranges.dy) at c.steps_len.ensures.0 in both-short c.args.dx c.args.dy (sym long ∙ c.if-steps_len-eq2.true) in
    rw (to_z-of_z c.ranges.dx) (short-abs c.args.dx both.0)

pub low7-requires-then-steps_len-eq2 : goal.low7-requires-then-steps_len-eq2
low7-requires-then-steps_len-eq2 c =
    let both : (short c.args.dx ≡ true) × (short c.args.dy ≡ true) =
    let long = rw (to_z-of_z c.ranges.dx, to_z-of_z c.ranges.dy) at c.steps_len.ensures.0 in both-short c.args.dx c.args.dy (sym long ∙ c.if-steps_len-eq2.true) in
    rw (to_z-of_z c.ranges.dy) (short-abs c.args.dy both.1)

pub put2-requires : goal.put2-requires
put2-requires c =
    let both : (short c.args.dx ≡ true) × (short c.args.dy ≡ true) =
    let long = rw (to_z-of_z c.ranges.dx, to_z-of_z c.ranges.dy) at c.steps_len.ensures.0 in both-short c.args.dx c.args.dy (sym long ∙ c.if-steps_len-eq2.true) in
    rw (both_bytes c.args.dx c.args.dy both) at c.requires.dy_in_bounds

pub returns-then-steps_len-eq2 : goal.returns-then-steps_len-eq2
returns-then-steps_len-eq2 c =
    let both : (short c.args.dx ≡ true) × (short c.args.dy ≡ true) =
    let long = rw (to_z-of_z c.ranges.dx, to_z-of_z c.ranges.dy) at c.steps_len.ensures.0 in both-short c.args.dx c.args.dy (sym long ∙ c.if-steps_len-eq2.true) in
    let e = both_bytes c.args.dx c.args.dy both in
    put_as c.put2.ensures (rw (c.low7.ensures, c.low7-then-steps_len-eq2.ensures, to_z-of_z c.ranges.dx, to_z-of_z c.ranges.dy, e))

pub pec_value-y-requires : goal.pec_value-y-requires
pec_value-y-requires c =
    record {
      z_bound = rw (to_z-of_z c.ranges.dx) (c.requires.step.x);
      z_in_bounds = rw (to_z-of_z c.ranges.dx) (omega (arith, length-append (pec_value c.args.dx) (pec_value c.args.dy), c.requires.dy_in_bounds));
    }

pub pec_value-requires : goal.pec_value-requires
pec_value-requires c =
    let q = rw (to_z-of_z c.ranges.dx) at c.pec_value-y.ensures in
    record {
      z_bound = rw (to_z-of_z c.ranges.dy) (c.requires.step.y);
      z_in_bounds = rw (to_z-of_z c.ranges.dy) (omega (arith, length-append (pec_value c.args.dx) (pec_value c.args.dy), c.requires.dy_in_bounds, q.ends, q.same));
    }

pub returns : goal.returns
returns c =
    let q = rw (to_z-of_z c.ranges.dx) at c.pec_value-y.ensures in
    let r = rw (to_z-of_z c.ranges.dy) at c.pec_value.ensures in
    put-put q r
