-- Each step's bytes, added.
use native.Mathlib.Omega.{arith}
use lib.ListN.{length-append}
use mir.Facts.{to_z-of_z}
use Rattle.rules.specs.Pec.{pec_value}
use Rattle.pec_cmd.proofs.steps_len.Goals as goal

pub returns : goal.returns
returns c =
    let p = rw (to_z-of_z c.ranges.dx) at c.value_len.ensures.0 in
    let q = rw (to_z-of_z c.ranges.dy) at c.value_len-2.ensures.0 in
    (omega (arith, length-append (pec_value c.args.dx) (pec_value c.args.dy), p, q), omega (arith, c.value_len.ensures.1, c.value_len-2.ensures.1))
