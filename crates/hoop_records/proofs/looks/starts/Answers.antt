-- A run that is open has its first point behind it.
use mir.Facts.{to_z-of_z}
use mir.Syntax.{w32}
use mir.Val.{SFits}
use borrow.Author.Rules.{rules}
use Rattle.hoop_records.proofs.looks.starts.Goals as goal

pub returns : goal.returns
returns c = let w = c.args.w in
    let f : SFits w32 w.x = search (rules, c.struct_told-1.given) in
    let g : SFits w32 w.y = search (rules, c.struct_told-2-1.given) in
    rw (c.if-w.false, c.holds.ensures, to_z-of_z f, to_z-of_z g)
