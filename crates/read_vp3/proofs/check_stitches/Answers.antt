-- The stitches are followed as one slice of the file; the tally ends at the block.
use Rattle.std.proofs.Common.{sym, ◌∙◌}
use mir.Facts.{to_z-of_z}
use mir.Syntax.{w32}
use mir.Val.{SFits}
use Rattle.laws.specs.Exits.{exit}
use Rattle.read_vp3_fields.specs.Fields.{within}
use Rattle.read_vp3.proofs.Walked.{walk-not, walk-on, small-after}
use borrow.Author.Rules.{rules}
use Rattle.read_vp3.proofs.check_stitches.Goals as goal

pub returns-in_err-t : goal.returns-in_err-t
unfolding within
returns-in_err-t c = let a = c.args in
    let f : SFits w32 a.w.x = search rules in
    let g : SFits w32 a.w.y = search rules in
    let e = rw (to_z-of_z f, to_z-of_z g) at c.follow.ensures in
    let o = rw e at c.ok_or.ensures.value in
    rw (exit c.from_residual.ensures.1) (walk-not a.file.now a.k a.w (sym o ∙ c.in_err-t.was))

pub tally_change-requires : goal.tally_change-requires
unfolding within
tally_change-requires c = let a = c.args in
    let f : SFits w32 a.w.x = search rules in
    let g : SFits w32 a.w.y = search rules in
    let e = rw (to_z-of_z f, to_z-of_z g) at c.follow.ensures in
    let o = rw e at c.ok_or.ensures.value in
    small-after a.file.now a.k a.w c.requires.0 c.requires.1 (sym o ∙ c.in_ok-t.was)

pub returns : goal.returns
unfolding within
returns c = let a = c.args in
    let f : SFits w32 a.w.x = search rules in
    let g : SFits w32 a.w.y = search rules in
    let e = rw (to_z-of_z f, to_z-of_z g) at c.follow.ensures in
    let o = rw e at c.ok_or.ensures.value in
    let x : SFits w32 a.k.x = search rules in
    let y : SFits w32 a.k.y = search rules in
    walk-on a.file.now a.k a.w (sym o ∙ c.in_ok-t.was) c.tally_change.ensures (to_z-of_z x) (to_z-of_z y)
