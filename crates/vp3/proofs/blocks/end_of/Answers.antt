-- The place of the last command, or the start.
use mathlib.Core.Path.{sym, ◌∙◌}
use mir.Facts.{to_z-of_z}
use mir.Syntax.{w32}
use Rattle.laws.specs.Ints.{ret}
use Rattle.vp3.proofs.Slices.{end-at, end_none}
use Rattle.vp3.proofs.blocks.end_of.Goals as goal

pub returns-then-from-end : goal.returns-then-from-end
returns-then-from-end c =
    let a = c.args in
    ret w32 _ c.result-1.given ∙ sym (end-at a.z a.zs.now a.from a.end c.if-from-end.true c.requires.1)

pub returns : goal.returns
returns c =
    let a = c.args in
    to_z-of_z c.ranges.z ∙ sym (end_none a.z a.zs.now a.from a.end c.if-from-end.false)
