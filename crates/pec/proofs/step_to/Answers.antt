-- The two steps.
use mathlib.Core.Path.{◌∙◌}
use borrow.Author.Rules.{rules}
use mir.Facts.{to_z-of_z}
use mir.Syntax.{w32}
use mir.Val.{SFits}
use Rattle.laws.specs.Ints.{ret}
use Rattle.pec.proofs.step_to.Goals as goal

pub returns : goal.returns
returns c = let a = c.args in
    let f : SFits w32 a.last.x = search rules in
    let g : SFits w32 a.c.x = search rules in
    let h : SFits w32 a.last.y = search rules in
    let k : SFits w32 a.c.y = search rules in
    let first = c.step in
    (ret w32 first.result first.type_inv ∙ (rw (to_z-of_z f, to_z-of_z g) at first.ensures), ret w32 c.step-2.result c.step-2.type_inv ∙ (rw (to_z-of_z h, to_z-of_z k) at c.step-2.ensures))
