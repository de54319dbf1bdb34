-- The step is added to the place.
use mir.Syntax.{w32}
use mir.Val.{SFits}
use Rattle.hoop_records.proofs.Sums.{added}
use borrow.Author.Rules.{rules}
use Rattle.hoop_records.proofs.looks.hop.Goals as goal

pub returns : goal.returns
returns c =
    let f : SFits w32 c.args.w.x = search (rules, c.struct_told-1.given) in
    let g : SFits w32 c.args.w.y = search (rules, c.struct_told-2-1.given) in
    let u = c.sum in
    let v = c.sum-2 in
    rw (added u.type_inv u.ensures f c.ranges.dx, added v.type_inv v.ensures g c.ranges.dy)
