-- Each kind of record puts its own.
use lib.ListN.{length-append}
use Rattle.read_passes.proofs.Turns.{step-reads}
use Rattle.read_passes.proofs.answers.write.Goals as goal

pub sew-requires : goal.sew-requires
sew-requires c = let e = c.in-StitchBy.is in
    let h = simp e at c.requires.reach in
    let k = step-reads h in
    record { small = c.requires.small; reach = rw (k.0, k.1) h; y_in_bounds = simp (e, length-append) at c.requires.holds.places }

pub hop-requires : goal.hop-requires
hop-requires c = let e = c.in-JumpBy.is in
    let h = simp e at c.requires.reach in
    let k = step-reads h in
    record { small = c.requires.small; reach = rw (k.0, k.1) h; run_in_bounds = simp e at c.requires.holds.runs }

pub change-requires : goal.change-requires
change-requires c = let e = c.in-ChangeBy.is in
    let h = simp e at c.requires.reach in
    let k = step-reads h in
    record { small = c.requires.small; reach = rw (k.0, k.1) h; run_in_bounds = simp e at c.requires.holds.runs; begun_in_bounds = simp e at c.requires.holds.blocks }

pub returns-in-Finish : goal.returns-in-Finish
returns-in-Finish c = let e = c.in-Finish.is in record { value = rw e; places_value = rw e; runs_value = rw e; blocks_value = rw e }
