-- The sum of what four bits of each byte add.
use mathlib.Core.Path.{◌∙◌}
use native.Mathlib.Omega.{arith}
use Rattle.read_records.proofs.DstTables.{two-fit, all_fit, all_read, x-low}
use Rattle.read_records.proofs.triples.dst_dx.Goals as goal

pub overflow_add-result-2 : goal.overflow_add-result-2
overflow_add-result-2 c = two-fit c.requires _ _ 0 (omega arith) (omega arith) (omega arith)

pub overflow_add-result-4 : goal.overflow_add-result-4
overflow_add-result-4 c = all_fit c.requires _ _ _ (omega arith) (omega arith) (omega arith)

pub returns : goal.returns
returns c = let a = c.args in
    all_read c.requires _ _ _ (omega arith) (omega arith) (omega arith) ∙ x-low a.a a.b a.c
