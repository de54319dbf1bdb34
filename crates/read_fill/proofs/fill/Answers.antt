-- All records, then what is open, and the cuts.
use native.Mathlib.Omega.{arith}
use Rattle.read_passes.proofs.Loops.{ready-start, can-settle, settled}
use Rattle.read_fill.proofs.Rows.{told_with}
use Rattle.read_fill.proofs.fill.Goals as goal

pub fill_records-q-requires : goal.fill_records-q-requires
fill_records-q-requires c = ready-start _ _ _ c.requires.fits c.requires.bytes_len_bound

pub settle-c-requires : goal.settle-c-requires
settle-c-requires c =
    let pp = can-settle _ _ c.requires.fits c.requires.bytes_len_bound c.fill_records-q.ensures.ends in
    record { small = pp.0; b_bound = pp.1.0; run_in_bounds = pp.1.1.0; begun_in_bounds = pp.1.1.1 }

pub returns : goal.returns
returns c =
    let w = c.settle-c in
    let d = settled _ _ c.requires.fits c.requires.bytes_len_bound c.fill_records-q.ensures.ends (w.ensures.counted, (w.ensures.runs_value, w.ensures.blocks_value)) in rw c.with_rows.ensures (record { told = told_with c.args.f _ _ _ d.0 (omega (arith, w.ensures.counted)) c.fill_records-q.ensures.rows_of; places_value = d.1.0; runs_value = d.1.1.0; blocks_value = d.1.1.1 })
