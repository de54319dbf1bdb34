-- Both ways put the picture of the whole, then those of the blocks.
use lib.ListN.{length}
use mir.Facts.{to_z-of_z}
use mir.Syntax.{w32}
use mir.Val.{SFits}
use Rattle.rules.specs.Lists.{commands}
use Rattle.rules.specs.Thumbnails.{f4, f5}
use Rattle.laws.specs.Buffers.{put_as}
use Rattle.thumbnails.proofs.Framed.{framed-as}
use Rattle.thumbnails.proofs.Whole.{scale-is, icons-are, icons-room}
use borrow.Author.Rules.{rules}
use Rattle.thumbnails.proofs.put_icons.Goals as goal

pub put_by_tables-requires : goal.put_by_tables-requires
put_by_tables-requires c = let a = c.args in
    let cs = commands a.xs.now a.ys.now a.kinds.now in
    let b = a.b in
    let told = c.struct_told-1.given in
    let x : SFits w32 b.min.x = search (rules, told) in
    let y : SFits w32 b.min.y = search (rules, told) in
    let x' : SFits w32 b.max.x = search (rules, told) in
    let y' : SFits w32 b.max.y = search (rules, told) in
    let held = c.has_tables.ensures c.if-has_tables.true in
    let frame = framed-as cs c.requires.b_value (to_z-of_z x) (to_z-of_z x')
    (to_z-of_z y) (to_z-of_z y') c.places-w.ensures c.places-h.ensures in record { left_bound = held; framed = frame; kinds_in_bounds = icons-room cs c.scale_of-part.result a.at (length a.out.now) c.requires.kinds_in_bounds }

pub returns-then-has_tables : goal.returns-then-has_tables
returns-then-has_tables c = let a = c.args in
    let cs = commands a.xs.now a.ys.now a.kinds.now in
    let b = a.b in
    let told = c.struct_told-1.given in
    let x : SFits w32 b.min.x = search (rules, told) in
    let y : SFits w32 b.min.y = search (rules, told) in
    let x' : SFits w32 b.max.x = search (rules, told) in
    let y' : SFits w32 b.max.y = search (rules, told) in
    let whole = scale-is cs f4 c.requires.b_value x y x' y' c.scale_of-whole.ensures in
    let part = scale-is cs f5 c.requires.b_value x y x' y' c.scale_of-part.ensures in
    put_as c.put_by_tables.ensures (icons-are cs whole part)

pub put_plainly-requires : goal.put_plainly-requires
put_plainly-requires c =
    let scale-of2 = c.scale_of-part in
    let a = c.args in
    icons-room (commands a.xs.now a.ys.now a.kinds.now) scale-of2.result a.at (length a.out.now) c.requires.kinds_in_bounds

pub returns : goal.returns
returns c = let a = c.args in
    let cs = commands a.xs.now a.ys.now a.kinds.now in
    let b = a.b in
    let told = c.struct_told-1.given in
    let x : SFits w32 b.min.x = search (rules, told) in
    let y : SFits w32 b.min.y = search (rules, told) in
    let x' : SFits w32 b.max.x = search (rules, told) in
    let y' : SFits w32 b.max.y = search (rules, told) in
    let whole = scale-is cs f4 c.requires.b_value x y x' y' c.scale_of-whole.ensures in
    let part = scale-is cs f5 c.requires.b_value x y x' y' c.scale_of-part.ensures in
    put_as c.put_plainly.ensures (icons-are cs whole part)
