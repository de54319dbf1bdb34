-- A block's fields, then its stitches.
use mir.Facts.{to_z-of_z}
use mir.Syntax.{w32}
use mir.Val.{SFits}
use Rattle.laws.specs.Exits.{exit}
use Rattle.read_vp3.proofs.Walked.{walks-of, walks-not}
use borrow.Author.Rules.{rules}
use Rattle.read_vp3.proofs.check_block.Goals as goal

pub returns-in_err-k : goal.returns-in_err-k
returns-in_err-k c = let a = c.args in
    let f : SFits w32 a.w.x = search rules in
    let g : SFits w32 a.w.y = search rules in
    rw (exit c.from_residual.ensures.1) (walks-not a.w a.n (rw (to_z-of_z f, to_z-of_z g) at c.in_err-k.ensures))

pub returns : goal.returns
returns c = let a = c.args in
    let f : SFits w32 a.w.x = search rules in
    let g : SFits w32 a.w.y = search rules in
    rw c.check_stitches.ensures (walks-of c.requires a.n (rw (to_z-of_z f, to_z-of_z g) at c.in_ok-k.ensures))
