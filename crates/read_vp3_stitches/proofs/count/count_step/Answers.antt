-- Each kind of step by its law.
use mathlib.Core.Path.{refl}
use native.Mathlib.Omega.{arith}
use Rattle.read_vp3_stitches.proofs.Counting.{spare-small, counted}
use Rattle.read_vp3_stitches.proofs.count.count_step.Goals as goal

pub tally_one-requires : goal.tally_one-requires
tally_one-requires c = record { small_tally = spare-small c.requires.1; s_bound = omega arith }

pub overflow_add-result : goal.overflow_add-result
overflow_add-result c = let h = (rw c.in-Stitch.is at c.step_at.ensures).inside in omega arith

pub tally_one-requires-in-EndRun : goal.tally_one-requires-in-EndRun
tally_one-requires-in-EndRun c = record { small_tally = spare-small c.requires.1; s_bound = omega arith }

pub returns-in-Stitch : goal.returns-in-Stitch
returns-in-Stitch c =
    let pp = counted c.requires.0 c.requires.1 _ (rw c.in-Stitch.is at c.step_at.ensures) c.tally_one.ensures refl in
    record { counts = pp.0; at_lt_at = pp.1 }

pub returns-in-EndRun : goal.returns-in-EndRun
returns-in-EndRun c =
    let pp = counted c.requires.0 c.requires.1 _ (rw c.in-EndRun.is at c.step_at.ensures) c.tally_one-in-EndRun.ensures refl in
    record { counts = pp.0; at_lt_at = pp.1 }

pub returns-in-Nothing : goal.returns-in-Nothing
returns-in-Nothing c =
    let pp = counted c.requires.0 c.requires.1 _ (rw c.in-Nothing.is at c.step_at.ensures) refl refl in
    record { counts = pp.0; at_lt_at = pp.1 }

pub returns-in-Finish : goal.returns-in-Finish
returns-in-Finish c =
    let pp = counted c.requires.0 c.requires.1 _ (rw c.in-Finish.is at c.step_at.ensures) refl refl in
    record { counts = pp.0; at_lt_at = pp.1 }
