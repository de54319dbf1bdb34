-- Each way out by the two tests.
use Rattle.std.proofs.Common.{sym, ◌∙◌}
use Rattle.laws.specs.Tests.{true-is}
use Rattle.thumbnail_scale.proofs.Floors.{fails, left-of, right_of, cut, cut_range}
use Rattle.thumbnail_scale.proofs.floor.Goals as goal

pub returns-then-x : goal.returns-then-x
returns-then-x c = sym (left-of _ (true-is _ c.if-x.true))

pub truncating_f64_to_u64-requires-clause-lower_bound : goal.truncating_f64_to_u64-requires-clause-lower_bound
truncating_f64_to_u64-requires-clause-lower_bound c = (cut_range _ (fails _ c.if-x.false) (true-is _ c.if-x-2.true)).0

pub truncating_f64_to_u64-requires-clause-upper_bound : goal.truncating_f64_to_u64-requires-clause-upper_bound
truncating_f64_to_u64-requires-clause-upper_bound c = (cut_range _ (fails _ c.if-x.false) (true-is _ c.if-x-2.true)).1

pub returns-then-x-2 : goal.returns-then-x-2
returns-then-x-2 c = c.truncating_f64_to_u64.ensures ∙ cut _ (fails _ c.if-x.false) (true-is _ c.if-x-2.true)

pub returns : goal.returns
returns c = sym (right_of _ (fails _ c.if-x.false) (fails _ c.if-x-2.false))
