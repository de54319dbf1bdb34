-- The counts decide, and then the second pass.
use mathlib.Core.Path.{sym, ◌∙◌}
use Rattle.rules.specs.Vp3.{vp3_blocks}
use Rattle.read.proofs.Rooms.{given-unread}
use Rattle.read.proofs.Vp3Files.{sound, long, sized, vp3-fits, vp3-read}
use Rattle.read_vp3.specs.Fills.{colour_by}
use Rattle.read.proofs.read_vp3.Goals as goal

pub fill-requires : goal.fill-requires
fill-requires c = let r = rw c.sizes_of.ensures at (sym c.has_room.ensures ∙ c.if-has_room.true) in
    record { in_bounds = (long c.requires, c.requires.short); file_value = sound c.requires; fits = vp3-fits c.requires r }

pub returns-then-has_room : goal.returns-then-has_room
returns-then-has_room c =
    let r = rw c.sizes_of.ensures at (sym c.has_room.ensures ∙ c.if-has_room.true) in
    vp3-read c.requires r c.fill.ensures

pub returns : goal.returns
returns c =
    let r = rw c.sizes_of.ensures at (sym c.has_room.ensures ∙ c.if-has_room.false) in
    given-unread (colour_by (vp3_blocks c.args.file.now)) (sized c.requires) r
