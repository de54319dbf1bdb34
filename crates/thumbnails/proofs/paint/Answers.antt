-- What the calls ensure, joined.
use mir.Facts.{to_z-of_z}
use Rattle.thumbnails.proofs.Joined.{paint-seen, paint-joined}
use Rattle.thumbnails.proofs.paint.Goals as goal

pub returns-then-is_in : goal.returns-then-is_in
returns-then-is_in c = let scaled = c.scaled-across in
    let a = c.args in
    let f = c.ranges in (
      paint-seen a.s a.icon.now (to_z-of_z f.x) (to_z-of_z f.y) a.last scaled.ensures c.scaled-down.ensures c.is_in.ensures
          c.if-is_in.true c.requires.1,
      c.requires.1,
    )

pub returns : goal.returns
returns c = let set-pixel = c.set_pixel in let floor2 = c.floor-row in
    let floor = c.floor-column in
    let scaled2 = c.scaled-down in
    let scaled = c.scaled-across in
    let a = c.args in
    let f = c.ranges in
    paint-joined a.s a.icon.now (to_z-of_z f.x) (to_z-of_z f.y) c.cell_of.result scaled.ensures scaled2.ensures floor.ensures floor2.ensures
    set-pixel.ensures c.cell_of.ensures
