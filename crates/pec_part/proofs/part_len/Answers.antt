-- The header, the block's front, the stitches and the thumbnails.
use native.Mathlib.Omega.{arith}
use Rattle.pec_part.proofs.Bounds.{bytes-few, changes_few, part-long}
use Rattle.pec_part.proofs.part_len.Goals as goal

pub overflow_add-result : goal.overflow_add-result
overflow_add-result c =
    let a = c.args in let e = bytes-few a.xs.now a.ys.now a.kinds.now c.requires.kinds_len_bound.0 c.requires.n_value in omega arith

pub overflow_add-result-2 : goal.overflow_add-result-2
overflow_add-result-2 c =
    let a = c.args in let e = bytes-few a.xs.now a.ys.now a.kinds.now c.requires.kinds_len_bound.0 c.requires.n_value in let f = changes_few a.xs.now
    a.ys.now a.kinds.now c.requires.kinds_len_bound.0 c.color_changes.ensures in omega arith

pub overflow_mul-result : goal.overflow_mul-result
overflow_mul-result c =
    let a = c.args in let e = bytes-few a.xs.now a.ys.now a.kinds.now c.requires.kinds_len_bound.0 c.requires.n_value in let f = changes_few a.xs.now
    a.ys.now a.kinds.now c.requires.kinds_len_bound.0 c.color_changes.ensures in omega arith

pub overflow_add-result-3 : goal.overflow_add-result-3
overflow_add-result-3 c =
    let a = c.args in let e = bytes-few a.xs.now a.ys.now a.kinds.now c.requires.kinds_len_bound.0 c.requires.n_value in let f = changes_few a.xs.now
    a.ys.now a.kinds.now c.requires.kinds_len_bound.0 c.color_changes.ensures in omega arith

pub returns : goal.returns
returns c =
    let a = c.args in part-long a.xs.now a.ys.now a.kinds.now c.requires.kinds_len_bound.0 a.threads.now c.requires.kinds_len_bound.1 c.requires.n_value c.color_changes.ensures
