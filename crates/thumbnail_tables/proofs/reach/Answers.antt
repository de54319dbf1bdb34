-- A float from 0 to below 65536 is cut.
use Rattle.laws.specs.Tests.{true-is}
use Rattle.thumbnail_scale.proofs.Floors.{fails}
use Rattle.thumbnail_tables.proofs.Places.{cut_range, cut-le}
use Rattle.thumbnail_tables.proofs.reach.Goals as goal

pub truncating_f64_to_u64-requires : goal.truncating_f64_to_u64-requires
truncating_f64_to_u64-requires c =
    let r = cut_range _ (fails _ c.if-far.false) (true-is _ c.if-far-2.true) in
    record { lower_bound = r.0; upper_bound = r.1 }

pub returns-then-far-2 : goal.returns-then-far-2
returns-then-far-2 c = rw c.truncating_f64_to_u64.ensures (cut-le _ (true-is _ c.if-far-2.true))
