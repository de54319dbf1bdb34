-- Small numbers stay in their type.
use native.Mathlib.Omega.{arith}
use Rattle.read_count.proofs.Laws.{opened-le}
use Rattle.read_count.proofs.tally.tally_one.Goals as goal

pub overflow_mul-result : goal.overflow_mul-result
overflow_mul-result c = let a = c.args in omega (arith, opened-le a.s a.t.running c.requires.s_bound)

pub overflow_add-result-2 : goal.overflow_add-result-2
overflow_add-result-2 c = let a = c.args in omega (arith, opened-le a.s a.t.running c.requires.s_bound, c.requires.small_tally.runs)
