-- The picture of the whole, then those of the blocks.
use Rattle.rules.specs.Lists.{commands}
use Rattle.thumbnails.proofs.Whole.{blocks-put}
use Rattle.thumbnails.proofs.put_plainly.Goals as goal

pub returns : goal.returns
returns c = let put-icon = c.put_icon-blocks in
    let draw-scaled = c.draw_scaled in
    let list-len = c.list_len-n in
    let a = c.args in blocks-put (commands a.xs.now a.ys.now a.kinds.now) list-len.result a.whole a.part draw-scaled.ensures
    put-icon.ensures list-len.ensures c.put_blocks.ensures
