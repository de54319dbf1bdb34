-- Each case by its law.
use Prim.Native.Nat.{◌+◌}
use mathlib.Core.Path.{refl}
use native.Mathlib.Omega.{arith}
use Rattle.read_vp3_stitches.proofs.Counting.{spare-small, counted, counted-two}
use Rattle.read_vp3_stitches.proofs.Stepping.{stitch-at}
use Rattle.read_vp3_stitches.proofs.count.count_pair.Goals as goal

pub returns-then-bytes-at : goal.returns-then-bytes-at
returns-then-bytes-at c = record { counts = c.count_step.ensures.counts; at_lt_at = c.count_step.ensures.at_lt_at (omega (arith, c.requires.0)) }

pub tally_one-requires : goal.tally_one-requires
tally_one-requires c = record { small_tally = spare-small c.requires.1; s_bound = omega arith }

pub returns-then-bytes-at-2 : goal.returns-then-bytes-at-2
returns-then-bytes-at-2 c = let a = c.args in
    let e = stitch-at a.bytes.now a.at (omega (arith, c.requires.0)) c.if-bytes-at.false in
    record { counts = (counted (omega (arith, c.requires.0)) c.requires.1 _ e c.tally_one.ensures refl).0; at_lt_at = omega arith }

pub tally_many-requires : goal.tally_many-requires
tally_many-requires c = record { small_tally = spare-small c.requires.1; n_bound = omega arith }

pub returns : goal.returns
returns c = let a = c.args in
    let e = stitch-at a.bytes.now a.at (omega (arith, c.requires.0)) c.if-bytes-at.false in
    let f = stitch-at a.bytes.now (a.at + 2) (omega (arith, c.requires.0)) c.if-bytes-at-2.false in
    record { counts = counted-two (omega (arith, c.requires.0)) c.requires.1 e f c.tally_many.ensures; at_lt_at = omega arith }
