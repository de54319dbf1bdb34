-- The kind, and the two numbers.
use borrow.Author.Rules.{rules}
use Prim.Native.Nat.{◌≤◌}
use mathlib.Core.Path.{ap, ◌∙◌}
use native.Mathlib.Omega.{arith}
use lib.IntN.{ℤ, nat_abs}
use mir.Facts.{to_z-of_z}
use mir.Syntax.{w32}
use mir.Val.{SFits, to_z, of_z}
use Rattle.rules.specs.Vocabulary.{bits_of, little}
use Rattle.rules.specs.Jobs.{row_of_cmd}
use Rattle.laws.specs.Buffers.{put-put, put_as}
use Rattle.export_job.proofs.put_row.Goals as goal

near : (z : ℤ) → SFits w32 z → nat_abs z ≤ 16000 → nat_abs (to_z w32 (of_z w32 z)) ≤ 32767
near z f h = rw (to_z-of_z f) (omega arith)

pub put-across-requires : goal.put-across-requires
unfolding little
put-across-requires c = search rules

pub low16-requires : goal.low16-requires
unfolding little
low16-requires c = search near

pub put_short-down-requires : goal.put_short-down-requires
unfolding little
put_short-down-requires c = search rules

pub low16-requires-2 : goal.low16-requires-2
unfolding little
low16-requires-2 c = search near

pub put_short-requires : goal.put_short-requires
unfolding little
put_short-requires c = search rules

pub returns : goal.returns
unfolding row_of_cmd
returns c =
    let fits = c.ranges in
    let across = c.low16.ensures ∙ ap (bits_of 15) (to_z-of_z fits.x) in
    let down = c.low16-2.ensures ∙ ap (bits_of 15) (to_z-of_z fits.y) in
    put_as (put-put (put-put c.put-across.ensures c.put_short-down.ensures) c.put_short.ensures) (rw (across, down))
